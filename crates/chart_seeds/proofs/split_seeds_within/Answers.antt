-- The loop is the iteration over the splits by seeds as numbers, with the parts' first entries as Splits has them. The loop itself knows
-- the floor by its number only, so what it keeps is said of every floor that has it.
use Prim.Native.Nat.{◌-◌, ◌+◌, ◌*◌}
use mathlib.Core.Path.{◌≡◌, refl, ◌∙◌}
use native.Mathlib.Omega.{arith}
use Rattle.packing.proofs.Loop.{iter_end}
use Rattle.seed_numbers.specs.Seeds.{ceiling_number}
use Rattle.chart_keys.proofs.Numbers.{join_small}
use Rattle.seed_numbers.proofs.Seeds.{lesser_number, ceiling_key}
use Rattle.chart_candidates.specs.Candidates.{split_seeds}
use Rattle.chart_candidates.proofs.Splits.{stride_small, stride_next, step_small, at_first, at_next, left_read, right_read}
use borrow.Author.Rules.{rules}
use Rattle.chart_seeds.proofs.split_seeds_within.Goals as goal

pub cell_number-requires : goal.cell_number-requires
cell_number-requires c = rw c.left_part.ensures (search rules)

pub cell_number-requires-2 : goal.cell_number-requires-2
cell_number-requires-2 c = rw c.right_part.ensures (search (rules, c.requires.in_table.0))

pub overflow_mul-stride : goal.overflow_mul-stride
overflow_mul-stride c =
    omega (
      arith,
      stride_small {step = c.args.d.symbols * 4} {j = c.args.c.from + 1} (omega (arith, c.requires.in_table.0.sized.symbols))
          (omega (arith, c.requires.in_table.0.order, c.requires.in_table.0.last)),
    )

pub floor_number-low-requires : goal.floor_number-low-requires
floor_number-low-requires c = c.requires.in_table.2.floor_in

pub ceiling_number-requires : goal.ceiling_number-requires
ceiling_number-requires c = c.requires.in_table.2.best_in

pub overflow_sub-height : goal.overflow_sub-height
overflow_sub-height c = omega (arith, c.floor_number-low.ensures.0, c.ceiling_number.ensures.0, c.requires.in_table.2.apart)

pub loop-j-init : goal.loop-j-init
loop-j-init c =
    let whole : c.ceiling_number.result - (c.floor_number-low.result + 1) + (c.floor_number-low.result + 1)
    ≡ ceiling_number c.args.best =
    omega (arith, c.floor_number-low.ensures.0, c.ceiling_number.ensures.0, c.requires.in_table.2.apart) in (
      record {
        after_first = omega arith;
        turns = omega arith;
        last = c.requires.in_table.0.last;
        apart = omega (arith, c.requires.in_table.0.sized.symbols);
        left = omega (arith, c.entry_of-x.ensures.1);
        right = omega (arith, c.entry_of-y.ensures.1);
      },
      omega (arith, whole),
      λ floor h e. at_first _ _ _ _ _ _ _ _ _ _ (ceiling_key _ _ whole),
      λ floor. record {
        d = c.args.d;
        c = c.args.c;
        from_first = record {
          kept = c.requires.in_table.0.sized.kept;
          apart = refl;
          left = rw (← c.left_part.ensures, ← c.cell_number.ensures.0) c.entry_of-x.ensures.0;
          right = rw (← c.right_part.ensures, ← c.cell_number-2.ensures.0) c.entry_of-y.ensures.0;
        };
        last = refl;
        left = c.requires.to_in_bounds.0;
        right = c.requires.to_in_bounds.1;
      },
      refl,
    )

pub price_within-requires : goal.price_within-requires
price_within-requires c =
    left_read _ _ _ _ _ _ _ _ _ (c.loop-j.invariant.3 c.args.floor) _ _ _ _
    (c.loop-j.invariant.2 _ c.requires.in_table.2.floor_in c.floor_number-low.ensures.0) (search rules)

pub price_within-requires-in-loop-j : goal.price_within-requires-in-loop-j
price_within-requires-in-loop-j c =
    right_read _ _ _ _ _ _ _ _ _ (c.loop-j.invariant.3 c.args.floor) _ _ _ _
    (c.loop-j.invariant.2 _ c.requires.in_table.2.floor_in c.floor_number-low.ensures.0) (search rules)

pub seed_number-requires : goal.seed_number-requires
seed_number-requires c = (
  rw c.join_price-price.ensures (join_small _ _ _ c.requires.in_table.1.weight (search rules) (search rules)),
  c.requires.in_table.1.number,
  search rules,
)

pub lesser_height-height-requires : goal.lesser_height-height-requires
lesser_height-height-requires c = omega (arith, c.loop-j.invariant.1, c.ceiling_number.ensures.0, c.ceiling_number.ensures.1)

pub overflow_add-x : goal.overflow_add-x
overflow_add-x c = omega (arith, c.loop-j.invariant.4, step_small c.loop-j.invariant.0 c.loop-j-test.true)

pub overflow_add-stride : goal.overflow_add-stride
overflow_add-stride c = omega (arith, c.loop-j.invariant.4, c.loop-j.invariant.0.apart, step_small c.loop-j.invariant.0 c.loop-j-test.true)

pub loop-j-preserved : goal.loop-j-preserved
loop-j-preserved c =
    let r = c.loop-j.invariant.0 in
    let s = step_small r c.loop-j-test.true in
    let p = c.requires.in_table in (
      record {
        after_first = omega arith;
        turns = omega arith;
        last = r.last;
        apart = r.apart;
        left = omega (arith, c.loop-j.invariant.4, s);
        right = omega arith;
      },
      omega (arith, c.lesser_height-height.ensures.1, c.loop-j.invariant.1),
      λ floor h e. rw (
        c.loop-j.invariant.4,
        c.lesser_height-height.ensures.0,
        c.seed_number.ensures,
        lesser_number c.join_price-price.result c.args.rule.number c.loop-j.j p.1.number
            (omega (arith, r.last, c.loop-j-test.true)) floor _ h p.2.best_in _ _ e c.loop-j.invariant.1,
        c.join_price-price.ensures,
        c.price_within.ensures.0,
        c.price_within-in-loop-j.ensures.0,
      ) (at_next _ _ _ _ _ _ _ _ _ _ _ _ _ r.after_first (c.loop-j.invariant.2 floor h e)),
      c.loop-j.invariant.3,
      stride_next _ _ c.loop-j.invariant.4,
    )

pub overflow_add-height-2 : goal.overflow_add-height-2
overflow_add-height-2 c = omega (arith, c.loop-j.invariant.1, c.ceiling_number.ensures.0, c.ceiling_number.ensures.1)

pub key_of_number-requires : goal.key_of_number-requires
key_of_number-requires c = c.requires.in_table.2.best_in

pub returns : goal.returns
unfolding split_seeds
returns c =
    c.key_of_number.ensures ∙ (c.loop-j.invariant.2 c.args.floor c.requires.in_table.2.floor_in
    c.floor_number-low.ensures.0 c.args.d c.args.c (record {
      kept = c.requires.in_table.0.sized.kept;
      apart = refl;
      left = rw (← c.left_part.ensures, ← c.cell_number.ensures.0) c.entry_of-x.ensures.0;
      right = rw (← c.right_part.ensures, ← c.cell_number-2.ensures.0) c.entry_of-y.ensures.0;
    })).seeds ∙ iter_end _ _ _ _ c.loop-j.invariant.0.turns (omega arith)
