-- Where a part is looked for, what `extend` ensures of it, at one less fuel; else by the tests, as in the definitions.
use Rattle.std.proofs.Common.{zero, suc, arith}
use borrow.Author.Tests.{eq-eqb, ne_eqb, lt-ltb, le-ltb}
use Rattle.chart_search.specs.Search.{next_of_span, extend, advance_pairing, extend_parts, keep_of_span, keep_extend, keep_pairing, keep_parts}
use Rattle.chart_search.proofs.+advance_pairing_extend_next_of_span.Goals as goal

pub advance_pairing-returns-then-b-eq0-clause-by_index : goal.advance_pairing-returns-then-b-eq0-clause-by_index
unfolding advance_pairing extend_parts
advance_pairing-returns-then-b-eq0-clause-by_index t c f h =
    rw (← c.back_before-b.ensures.0) (simp (
      lt-ltb _ _ c.if-c-split.true,
      lt-ltb c.back_before-b.result.split c.args.part.cell.to (omega arith),
      ← c.in-Pair.ensures,
      eq-eqb _ _ c.if-b-eq0.true,
    ) (rw (← (rw (c.part_of-right.ensures, c.right_part.ensures) at (c.extend.ensures.by_index f)) (omega arith))
    ((rw (c.part_of-left.ensures, c.left_part.ensures) at (c.extend-then-b-eq0.ensures.by_index f)) (omega arith))))

pub advance_pairing-returns-then-b-eq0-clause-by_index_2 : goal.advance_pairing-returns-then-b-eq0-clause-by_index_2
unfolding keep_pairing keep_parts
advance_pairing-returns-then-b-eq0-clause-by_index_2 t c f h =
    rw (← c.back_before-b.ensures.0) (simp (
      lt-ltb _ _ c.if-c-split.true,
      lt-ltb c.back_before-b.result.split c.args.part.cell.to (omega arith),
      ← c.in-Pair.ensures,
      eq-eqb _ _ c.if-b-eq0.true,
    ) (rw (
      ← (rw (c.part_of-right.ensures, c.right_part.ensures) at (c.extend.ensures.by_index f)) (omega arith),
      ← (rw (c.part_of-right.ensures, c.right_part.ensures) at (c.extend.ensures.by_index_2 f)) (omega arith),
    ) ((rw (c.part_of-left.ensures, c.left_part.ensures) at (c.extend-then-b-eq0.ensures.by_index_2 f)) (omega arith))))

pub advance_pairing-returns-else-b-eq0-clause-by_index : goal.advance_pairing-returns-else-b-eq0-clause-by_index
unfolding advance_pairing extend_parts
advance_pairing-returns-else-b-eq0-clause-by_index t c f h =
    rw (← c.back_before-b.ensures.0) (simp (
      lt-ltb _ _ c.if-c-split.true,
      lt-ltb c.back_before-b.result.split c.args.part.cell.to (omega arith),
      ← c.in-Pair.ensures,
      ne_eqb _ _ c.if-b-eq0.false,
    ) ((rw (c.part_of-right.ensures, c.right_part.ensures) at (c.extend.ensures.by_index f)) (omega arith)))

pub advance_pairing-returns-else-b-eq0-clause-by_index_2 : goal.advance_pairing-returns-else-b-eq0-clause-by_index_2
unfolding keep_pairing keep_parts
advance_pairing-returns-else-b-eq0-clause-by_index_2 t c f h =
    rw (← c.back_before-b.ensures.0) (simp (
      lt-ltb _ _ c.if-c-split.true,
      lt-ltb c.back_before-b.result.split c.args.part.cell.to (omega arith),
      ← c.in-Pair.ensures,
      ne_eqb _ _ c.if-b-eq0.false,
    ) ((rw (c.part_of-right.ensures, c.right_part.ensures) at (c.extend.ensures.by_index_2 f)) (omega arith)))

pub advance_pairing-returns-in-Word-clause-by_index : goal.advance_pairing-returns-in-Word-clause-by_index
unfolding advance_pairing extend_parts
advance_pairing-returns-in-Word-clause-by_index t c f h =
    rw (← c.back_before-b.ensures.0) (simp (
      lt-ltb _ _ c.if-c-split.true,
      lt-ltb c.back_before-b.result.split c.args.part.cell.to (omega arith),
      ← c.in-Word.ensures,
    ))

pub advance_pairing-returns-in-Word-clause-by_index_2 : goal.advance_pairing-returns-in-Word-clause-by_index_2
unfolding keep_pairing keep_parts
advance_pairing-returns-in-Word-clause-by_index_2 t c f h =
    rw (← c.back_before-b.ensures.0) (simp (
      lt-ltb _ _ c.if-c-split.true,
      lt-ltb c.back_before-b.result.split c.args.part.cell.to (omega arith),
      ← c.in-Word.ensures,
    ))

pub advance_pairing-returns-else-split-last-clause-by_index : goal.advance_pairing-returns-else-split-last-clause-by_index
unfolding advance_pairing
advance_pairing-returns-else-split-last-clause-by_index t c f h =
    rw (← c.back_before-b.ensures.0) (simp (
      lt-ltb _ _ c.if-c-split.true,
      le-ltb c.back_before-b.result.split c.args.part.cell.to (omega arith),
    ))

pub advance_pairing-returns-else-split-last-clause-by_index_2 : goal.advance_pairing-returns-else-split-last-clause-by_index_2
unfolding keep_pairing
advance_pairing-returns-else-split-last-clause-by_index_2 t c f h =
    rw (← c.back_before-b.ensures.0) (simp (
      lt-ltb _ _ c.if-c-split.true,
      le-ltb c.back_before-b.result.split c.args.part.cell.to (omega arith),
    ))

pub advance_pairing-returns-else-c-split-clause-by_index : goal.advance_pairing-returns-else-c-split-clause-by_index
unfolding advance_pairing
advance_pairing-returns-else-c-split-clause-by_index t c f h = rw (← c.back_before-b.ensures.0) (simp (le-ltb _ _ c.if-c-split.false))

pub advance_pairing-returns-else-c-split-clause-by_index_2 : goal.advance_pairing-returns-else-c-split-clause-by_index_2
unfolding keep_pairing
advance_pairing-returns-else-c-split-clause-by_index_2 t c f h = rw (← c.back_before-b.ensures.0) (simp (le-ltb _ _ c.if-c-split.false))

pub extend-returns-then-price_at-eq0-clause-by_index : goal.extend-returns-then-price_at-eq0-clause-by_index
unfolding extend
extend-returns-then-price_at-eq0-clause-by_index t c f h =
    simp (lt-ltb _ _ c.if-rank-d.true, ← c.cell_number.ensures.0, ← c.price_at.ensures.0, eq-eqb _ _ c.if-price_at-eq0.true)
    (c.next_of_span.ensures.by_index f h)

pub extend-returns-then-price_at-eq0-clause-by_index_2 : goal.extend-returns-then-price_at-eq0-clause-by_index_2
unfolding keep_extend
extend-returns-then-price_at-eq0-clause-by_index_2 t c f h =
    simp (lt-ltb _ _ c.if-rank-d.true, ← c.cell_number.ensures.0, ← c.price_at.ensures.0, eq-eqb _ _ c.if-price_at-eq0.true)
    (c.next_of_span.ensures.by_index_2 f h)

pub extend-returns-else-price_at-eq0-clause-by_index : goal.extend-returns-else-price_at-eq0-clause-by_index
unfolding extend
extend-returns-else-price_at-eq0-clause-by_index t c f h =
    simp (lt-ltb _ _ c.if-rank-d.true, ← c.cell_number.ensures.0, ← c.price_at.ensures.0, ne_eqb _ _ c.if-price_at-eq0.false)

pub extend-returns-else-price_at-eq0-clause-by_index_2 : goal.extend-returns-else-price_at-eq0-clause-by_index_2
unfolding keep_extend
extend-returns-else-price_at-eq0-clause-by_index_2 t c f h =
    simp (lt-ltb _ _ c.if-rank-d.true, ← c.cell_number.ensures.0, ← c.price_at.ensures.0, ne_eqb _ _ c.if-price_at-eq0.false)

pub extend-returns-else-rank-d-clause-by_index : goal.extend-returns-else-rank-d-clause-by_index
unfolding extend
extend-returns-else-rank-d-clause-by_index t c f h = simp (le-ltb _ _ c.if-rank-d.false)

pub extend-returns-else-rank-d-clause-by_index_2 : goal.extend-returns-else-rank-d-clause-by_index_2
unfolding keep_extend
extend-returns-else-rank-d-clause-by_index_2 t c f h = simp (le-ltb _ _ c.if-rank-d.false)

pub next_of_span-returns-clause-by_index : goal.next_of_span-returns-clause-by_index
unfolding next_of_span
next_of_span-returns-clause-by_index t c zero h = absurd (omega (arith, c.requires.0.order))
next_of_span-returns-clause-by_index t c (suc g) h =
    rw (ne_eqb c.args.part.rank 0 (λ e. omega (arith, c.requires.1, e)))
    (rw (← c.advance_pairing.ensures.by_index g h) c.next_rank.ensures.t_after)

pub next_of_span-returns-clause-by_index_2 : goal.next_of_span-returns-clause-by_index_2
unfolding keep_of_span
next_of_span-returns-clause-by_index_2 t c zero h = absurd (omega (arith, c.requires.0.order))
next_of_span-returns-clause-by_index_2 t c (suc g) h =
    rw (← c.advance_pairing.ensures.by_index g h, ← c.advance_pairing.ensures.by_index_2 g h) c.next_rank.ensures.kept_after
