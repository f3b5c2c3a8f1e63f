-- What reading answers and leaves in lent tables, from what was filled and from their lengths. Assumes nothing.
use Rattle.std.specs.Prelude.{ℕ, ◌*◌, ◌/◌, ◌≤◌, ◌<◌, ◌≡◌, List, ◌++◌, length, take, drop, Ok, Err}
use Rattle.std.proofs.Math.Path.{refl}
use borrow.Author.Tests.{le-leb, lt-leb}
use Rattle.tender.specs.declared.Tender.{Tender}
use Rattle.tender.specs.declared.Refusal.{Refusal}
use Rattle.tender.specs.declared.Refusal.TheVariants.{TableTooShort}
use Rattle.tender.specs.Tables.{bid_width, window_width}
use Rattle.reader_text.specs.Read.{accepted, refused, read_text, fitted, read_into}
use Rattle.reader_fill.proofs.FillLaws.{Filled}
use Rattle.reader.specs.Answer.{read_answer, bids_after, windows_after}

module _ (text bids windows : List ℕ) where
  pub Refuses : Refusal → Type 0
  Refuses r = read_into text (length bids / bid_width) (length windows / window_width) ≡ refused r

  pub answer_refused : (r : Refusal) → Refuses r →
      (Err r ≡ read_answer (read_into text (length bids / bid_width) (length windows / window_width)))
      × (bids ≡ bids_after bids (read_into text (length bids / bid_width) (length windows / window_width)))
      × (windows ≡ windows_after windows (read_into text (length bids / bid_width) (length windows / window_width)))
  unfolding Refuses bids_after windows_after
  answer_refused r e = rw e (refl, refl, refl)

  pub text_refused : (r : Refusal) → read_text text ≡ refused r → Refuses r
  unfolding Refuses read_into fitted
  text_refused r e = rw e

  module _ (t : Tender) (k m : ℕ) (rows spans : List ℕ) (h : Filled text t k m rows spans) where
    pub bids_short : length bids / bid_width < k → Refuses TableTooShort
    unfolding Refuses read_into fitted
    bids_short j = rw (h.is, h.rows_count, lt-leb k (length bids / bid_width) j)

    pub windows_short : k ≤ length bids / bid_width → length windows / window_width < m → Refuses TableTooShort
    unfolding Refuses read_into fitted
    windows_short i j =
        rw (h.is, h.rows_count, h.windows_count, le-leb k (length bids / bid_width) i, lt-leb m (length windows / window_width) j)

    fits : k ≤ length bids / bid_width → m ≤ length windows / window_width
        → read_into text (length bids / bid_width) (length windows / window_width) ≡ accepted t h.R h.W
    unfolding read_into fitted
    fits i j =
        rw (h.is, h.rows_count, h.windows_count, le-leb k (length bids / bid_width) i, le-leb m (length windows / window_width) j)

    pub answer_accepted : k ≤ length bids / bid_width → m ≤ length windows / window_width →
        (Ok (record { tender = t; bids = k; windows = m })
        ≡ read_answer (read_into text (length bids / bid_width) (length windows / window_width)))
        × (take (bid_width * k) rows ++ drop (bid_width * k) bids
        ≡ bids_after bids (read_into text (length bids / bid_width) (length windows / window_width)))
        × (take (window_width * m) spans ++ drop (window_width * m) windows
        ≡ windows_after windows (read_into text (length bids / bid_width) (length windows / window_width)))
    unfolding bids_after windows_after
    answer_accepted i j =
        rw (fits i j) (rw (h.rows_count, h.windows_count), rw (h.rows_count, h.rows_are), rw (h.windows_count, h.windows_are))
