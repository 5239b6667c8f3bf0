-- `packing::is_kind` meets its contract: it reads the kind, where there is one. Assumes nothing.
use mathlib.Core.Path.{◌≡◌, sym, ap}
use mathlib.Core.Bool.{false}
use mathlib.Core.List.{List, [], ◌∷◌}
use Prim.Native.Nat.{ℕ, ◌<◌}
use native.Mathlib.Omega.{arith}
use borrow.Author.Rules.{rules}
use borrow.Author.Tests.{ne_eqb}
use lib.Dec.{eqb}
use lib.ListN.{length}
use Rattle.bits.specs.Bits.{num, field}
use Rattle.packing.proofs.is_kind.Goals as goal

-- a block without bytes has no kind
empty_kind : (s : List ℕ) (kind : ℕ) → 0 < kind → length s ≡ 0 → false ≡ eqb (field s 0 4) kind
unfolding num
empty_kind [] kind k e = sym (ne_eqb 0 kind (λ z. omega arith))
empty_kind (x ∷ s) kind k e = absurd (omega arith)

pub returns-then-is_empty : goal.returns-then-is_empty
returns-then-is_empty c = let s = c in empty_kind s.args.block.now s.args.kind s.requires (search rules)

pub returns : goal.returns
returns c = ap (λ (v : ℕ). eqb v c.args.kind) c.read_field.ensures
