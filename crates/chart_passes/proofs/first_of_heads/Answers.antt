-- The loop is the iteration over the heads, which nothing changes from one live head to the next, and the masks cover the table at
-- each turn.
use Prim.Native.Nat.{◌+◌}
use mathlib.Core.Path.{refl, ◌∙◌}
use native.Mathlib.Omega.{arith}
use borrow.Author.Rules.{rules}
use Rattle.packing.specs.Meaning.{symbol_of}
use Rattle.packing.specs.Loop.{iter}
use Rattle.packing.proofs.Loop.{iter_more, iter_end}
use Rattle.chart_table.specs.Table.{cell}
use Rattle.chart_heads.proofs.Members.{heads_complete}
use Rattle.chart_search.specs.Search.{first_of_heads}
use Rattle.chart_passes.proofs.Fuel.{first_of_span}
use Rattle.chart_passes.proofs.Heads.{lacked_heads}
use Rattle.chart_passes.proofs.first_of_heads.Goals as goal

pub loop-a-init : goal.loop-a-init
unfolding iter
loop-a-init c = (
  search rules,
  search rules,
  search rules,
  search rules,
  search rules,
  search rules,
  lacked_heads _ _ _ _ _ _ _ _ c.args.span _ _ 0 _ c.requires.0 c.requires.1 c.requires.2 c.heads_over-leafy.ensures
      c.requires.2 c.live_heads-live.ensures c.next_head-a.ensures.0 c.next_head-a.ensures.1 c.next_head-a.ensures.2 refl,
)

pub first_leaf-leaf-requires : goal.first_leaf-leaf-requires
first_leaf-leaf-requires c =
    rw c.of_head-c.ensures record {
      from_le_last_place = (
        search rules,
        search rules,
        λ e. heads_complete _ _ _ _ _ _ (symbol_of c.loop-a.a) c.args.span.from c.args.span.to c.requires.2.words
            c.heads_over-leafy.ensures c.loop-a-test.true e,
      );
      worded = record { has = λ z. c.loop-a.invariant.4.words.has c.loop-a.a z c.loop-a-test.true };
    }

pub first_rank-requires : goal.first_rank-requires
first_rank-requires c =
    rw c.of_head-c.ensures (
      record { sized = c.requires.0.sized; order = c.requires.0.order; last = c.requires.0.last },
      c.loop-a-test.true,
      c.loop-a.invariant.3,
      c.first_leaf-leaf.ensures.1,
    )

pub live_heads-live-requires-in-loop-a : goal.live_heads-live-requires-in-loop-a
live_heads-live-requires-in-loop-a c = (c.requires.0.sized.symbols, omega (arith, c.requires.0.order, c.requires.0.last), c.requires.0.last)

pub overflow_add-a : goal.overflow_add-a
overflow_add-a c = search (rules, c.loop-a-test.true, c.requires.0.sized.symbols)

pub next_head-a-requires-in-loop-a : goal.next_head-a-requires-in-loop-a
next_head-a-requires-in-loop-a c = (omega (arith, c.loop-a-test.true), c.requires.0.sized.symbols)

pub loop-a-smaller : goal.loop-a-smaller
loop-a-smaller c = search (rules, c.loop-a-test.true, c.next_head-a-in-loop-a.ensures.0, c.next_head-a-in-loop-a.ensures.1)

pub loop-a-preserved : goal.loop-a-preserved
loop-a-preserved c = (
  c.next_head-a-in-loop-a.ensures.1,
  search rules,
  search rules,
  c.first_rank.ensures.covers,
  c.first_rank.ensures.ruled c.loop-a.invariant.4,
  c.live_heads-live-in-loop-a.ensures,
  lacked_heads _ _ _ _ _ _ _ _ c.args.span _ _ (c.loop-a.a + 1) _ c.requires.0 c.first_rank.ensures.covers
      c.requires.2
      c.heads_over-leafy.ensures (c.first_rank.ensures.ruled c.loop-a.invariant.4) c.live_heads-live-in-loop-a.ensures
      c.next_head-a-in-loop-a.ensures.0 c.next_head-a-in-loop-a.ensures.1 c.next_head-a-in-loop-a.ensures.2
      (rw (
        iter_more,
        ← c.loop-a.invariant.6,
        first_of_span _ _ _ _ _
            (cell (symbol_of c.loop-a.a) c.args.span.from c.args.span.to) c.requires.0.order,
        ← c.of_head-c.ensures,
        ← c.first_leaf-leaf.ensures.0,
      ) c.first_rank.ensures.t_after),
)

pub returns : goal.returns
unfolding first_of_heads
returns c = record {
  t_after = c.loop-a.invariant.6 ∙ iter_end _ _ _ _ c.loop-a.invariant.0 c.loop-a-test.false;
  covers = c.loop-a.invariant.3;
  ruled = c.loop-a.invariant.4;
}
