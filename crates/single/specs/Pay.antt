-- The winners of bids with one window each, and what each is paid.
use Rattle.std.specs.Prelude.{List, ℕ, length}
use Rattle.cover.specs.Sets.{covers}
use Rattle.cover.specs.LeastCover.{winners, vcg_paid}
use Rattle.cover.specs.Settled.{spans}

unfoldable pub winners_of : List ℕ → List ℕ → List ℕ → ℕ → ℕ
unfolding winners covers spans
winners_of a b ps L = winners (covers (spans a b) (length ps) L) ps

unfoldable pub vcg_paid_of : List ℕ → List ℕ → List ℕ → ℕ → ℕ → ℕ
unfolding vcg_paid covers spans
vcg_paid_of a b ps L i = vcg_paid (covers (spans a b) (length ps) L) ps i
