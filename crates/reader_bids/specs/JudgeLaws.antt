-- The first fault of a bid, test by test. Assumes nothing.
use Rattle.std.specs.Prelude.{ℕ, ◌≤◌, ◌≡◌, refl, Bool, true, false, not, ◌&&◌, ◌||◌, leb, ltb}
use Rattle.std.proofs.Common.{true≢false, leb-true}
use Rattle.std.proofs.Math.Option.{none, some}
use Rattle.tender.specs.declared.Tender.{Tender}
use Rattle.tender.specs.declared.Refusal.TheVariants.{OutsideLimits, TooMany, EmptyWindow, BidderRepeated, SeveralWindows}
use Rattle.tender.specs.declared.Refusal.TheVariants.{LateWindow}
use Rattle.tender.specs.Limits.{within, is_single}
use Rattle.reader_text.specs.Read.{line_fault, bid_fault_in}

module _ (t : Tender) (bids bidder price count : ℕ) (empty late used : Bool) where
  pub many : leb 1000 bids || ltb 32 count ≡ true → bid_fault_in t bids bidder price count empty late used ≡ some TooMany
  unfolding bid_fault_in line_fault
  many h = rw h

  module _ (a : leb 1000 bids || ltb 32 count ≡ false) where
    pub beyond : not (within 1 999999 bidder) || ltb 100000000 price ≡ true
        → bid_fault_in t bids bidder price count empty late used ≡ some OutsideLimits
    unfolding bid_fault_in line_fault
    beyond h = rw (a, h)

    module _ (b : not (within 1 999999 bidder) || ltb 100000000 price ≡ false) where
      pub several_windows : is_single t.kind && ltb 1 count ≡ true
          → bid_fault_in t bids bidder price count empty late used ≡ some SeveralWindows
      unfolding bid_fault_in line_fault
      several_windows h = rw (a, b, h)

      module _ (c : is_single t.kind && ltb 1 count ≡ false) where
        pub window_empty : empty ≡ true → bid_fault_in t bids bidder price count empty late used ≡ some EmptyWindow
        unfolding bid_fault_in line_fault
        window_empty h = rw (a, b, c, h)

        module _ (d : empty ≡ false) where
          pub window_late : late ≡ true → bid_fault_in t bids bidder price count empty late used ≡ some LateWindow
          unfolding bid_fault_in line_fault
          window_late h = rw (a, b, c, d, h)

          module _ (e : late ≡ false) where
            pub repeated : used ≡ true → bid_fault_in t bids bidder price count empty late used ≡ some BidderRepeated
            unfolding bid_fault_in line_fault
            repeated h = rw (a, b, c, d, e, h)

            pub sound : used ≡ false → bid_fault_in t bids bidder price count empty late used ≡ none
            unfolding bid_fault_in line_fault
            sound h = rw (a, b, c, d, e, h)

-- a bidder within its limits is one of a million
pub bidder_in : (bidder price : ℕ) → not (within 1 999999 bidder) || ltb 100000000 price ≡ false → bidder ≤ 999999
unfolding within
bidder_in bidder price h = go (leb 1 bidder) (leb bidder 999999) refl h
  where
    go : (a b : Bool) → leb bidder 999999 ≡ b → not (a && b) || ltb 100000000 price ≡ false → bidder ≤ 999999
    go true true e x = leb-true bidder 999999 e
    go true false e x = absurd (true≢false x)
    go false b e x = absurd (true≢false x)
