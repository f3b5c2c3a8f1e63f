-- A window of a bid text, as its words spell it.
use Rattle.std.specs.Prelude.{ℕ, List}
use Rattle.std.proofs.Math.Option.{Option, some}
use Rattle.tender.specs.declared.Span.{Span}
use Rattle.tender.specs.declared.Window.{Window}
use Rattle.tender.specs.Limits.{as_window}
use Rattle.reader_parts.specs.Words.{and_then, opened, closed, numeral_of}

-- the words "S" and "E"
unfoldable pub span_of : List ℕ → List ℕ → Option Span
unfolding and_then numeral_of
span_of s e = and_then (numeral_of s) (λ a. and_then (numeral_of e) (λ z. some (record { start = a; end = z })))

-- the words "(S" and "E)"
unfoldable pub window_of : List ℕ → List ℕ → Option Window
unfolding and_then opened closed span_of
window_of s e = and_then (opened s) (λ a. and_then (closed e) (λ z. and_then (span_of a z) (λ s. some (as_window s))))
