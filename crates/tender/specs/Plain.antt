-- Tenders for tests and examples.
use Rattle.std.specs.Prelude.{ℕ, None}
use Rattle.tender.specs.declared.Kind.{Kind}
use Rattle.tender.specs.declared.Tender.{Tender}

-- the tender of which nothing is said but its kind and its window: it has no reserve
abbrev pub plain_tender : Kind → ℕ → ℕ → Tender
plain_tender kind start end = record { kind = kind; window = record { start = start; end = end }; reserve = None }
