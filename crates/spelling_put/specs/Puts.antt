-- What putting bytes onto a page leaves.
use Rattle.std.specs.Prelude.{◌≡◌, List, ℕ}
use Rattle.spelling.specs.Written.{Written}
use Rattle.spelling_put.specs.declared.Page.{Page}

-- the page is the same buffer, with the bytes after those that were written, and they are written too
abbrev pub Puts : Page → List ℕ → Page → Type 0
Puts old bytes new = (new.buf.ghost_name ≡ old.buf.ghost_name) × Written old.buf.now old.at bytes new.buf.now new.at
