-- The turns of the loop over the rules: what was read so far is what the definition has read. Assumes nothing.
use mathlib.Core.Path.{◌≡◌, refl, sym, ◌∙◌}
use mathlib.Core.Bool.{Bool, true, false}
use mathlib.Core.List.{List, [], ◌∷◌, ◌++◌, map, append_assoc, append-nil, map-append}
use Prim.Native.Nat.{ℕ, suc, ◌+◌, ◌-◌, ◌*◌, ◌≤◌, ◌<◌}
use native.Mathlib.Numerals.{add-one}
use native.Mathlib.Omega.{arith}
use native.Mathlib.Decide.{ℕ_discrete}
use borrow.Author.Tests.{eq-eqb, ne_eqb}
use lib.ListN.{length, take, set, length-append, length-map}
use lib.Seq.{length-take-le, take-suc-set}
use Rattle.packing.specs.Store.{store_all}
use Rattle.packing.proofs.Bounds.{length_rules}
use Rattle.packing.proofs.Flat.{stored_overlaid}
use Rattle.packing.proofs.Store.{stored_next}
use Rattle.packing.specs.Meaning.{MarkedRule, rule_in, mark_in}
use Rattle.packing.specs.Parse.{Parse, parsed, failed}
use Rattle.packing.specs.Source.{Source, values, value_of}
use Rattle.packing.specs.Alike.{any_like, unlike_from}
use Rattle.packing.specs.Grammar.{alike, marked_rule_from, marked_alike, rules_from, rule_entries, rules_entries}
use Rattle.packing.proofs.Alike.{keyed_none}
use Rattle.packing.proofs.Grammar.{like_unmarked}
use Rattle.packing.specs.declared.Rule.{Rule}
use Rattle.packing.specs.declared.refusal.Refusal.{Refusal}
use Rattle.packing.specs.declared.refusal.Refusal.TheVariants.{GrammarRepeat}
use Rattle.std.specs.Prelude.{Result, Ok, Err}
use Rattle.rules_reader.specs.Rules.{rule_by, marked_by, row, key_of, among, reached, RulesTold}
use Rattle.rules_reader.specs.declared.rule.RuleNumbers.{RuleNumbers}
use Rattle.rules_reader.proofs.Keys.{RulesKeyed, rules_keyed_more}

-- a rule's entries have its numbers
row_values : (S W : ℕ) (n : RuleNumbers) → values (rule_entries S W (rule_by n)) ≡ row n
row_values S W n = go (ℕ_discrete n.kind 0)
  where
    go : Dec (n.kind ≡ 0) → values (rule_entries S W (rule_by n)) ≡ row n
    go (yes e) = rw (eq-eqb n.kind 0 e, e)
    go (no e) =
        let k : n.kind ≡ 1 = omega (arith, e, n.sound) in
        let z : n.second ≡ 0 = omega (arith, e, n.sound) in
        rw (ne_eqb n.kind 0 e, k, z)

values_snoc : (S W : ℕ) (rs : List Rule) (r : Rule) → values (rules_entries S W (rs ++ (r ∷ []))) ≡ values (rules_entries S W rs) ++ values (rule_entries S W r)
unfolding rules_entries
values_snoc S W [] r = rw append-nil
values_snoc S W (x ∷ rs) r =
    rw (
      map-append value_of (rule_entries S W x) (rules_entries S W (rs ++ (r ∷ []))),
      map-append value_of (rule_entries S W x) (rules_entries S W rs),
      values_snoc S W rs r,
      append_assoc,
    )

module _ (marking : Bool) (src : Source) (S W R start : ℕ) where
  -- all that is read
  abbrev whole : Parse (List MarkedRule)
  whole = rules_from marking src S W R start []

  -- after i rules, at a place: rs were read, the keys tell which rules these are, and their numbers and marks stand at the arrays' fronts
  pub record ReadSoFar (i at : ℕ) (keys before rules marks : List ℕ) : Type 0 where
    pub rs : List MarkedRule
    pub size : length rs ≡ i
    pub keyed : RulesKeyed (map rule_in rs) (take i keys)
    pub rows : rules ≡ store_all before 0 (values (rules_entries S W (map rule_in rs)))
    pub borne : take i marks ≡ map mark_in rs
    pub left : rules_from marking src S W (R - i) at rs ≡ whole

  pub none_passed : (keys rules marks : List ℕ) → ReadSoFar 0 start keys rules rules marks
  unfolding rules_entries store_all
  none_passed keys rules marks =
      let all : R - 0 ≡ R = omega arith in
      record { rs = []; size = refl; keyed = keyed_none alike rule_by key_of (λ n. Unit {0}); rows = refl; borne = refl; left = rw all }

  module _ {i at : ℕ} {keys before rules marks : List ℕ} (p : ReadSoFar i at keys before rules marks) where
    -- a refusal leaves the arrays open
    refused_told : (r : Result ℕ Refusal) (n : ℕ) → reached r ≡ failed n → failed n ≡ whole → RulesTold marking src S W R start r before rules marks
    refused_told (Ok next) n f e = cc
    refused_told (Err r) n f e = record { answer = rw (← e) f; rows = rw (← e) tt; near = tt }

    -- the numbers stored so far
    abbrev numbers : List ℕ
    numbers = values (rules_entries S W (map rule_in p.rs))

    five_each : length numbers ≡ 5 * i
    five_each = omega (arith, length_rules S W (map rule_in p.rs), length-map p.rs rule_in, p.size)

    pub all_passed : i ≡ R → at ≤ start + 42 * 256 → 5 * i ≤ length before → i ≤ length marks
        → RulesTold marking src S W R start (Ok at) before rules marks
    unfolding unlike_from
    all_passed e h room space =
        let done : R - i ≡ 0 = omega arith in
        let w : parsed p.rs at ≡ whole = rw done at p.left in
        let few : length (map mark_in p.rs) ≡ i = rw (← p.borne) (length-take-le i marks space) in
        record {
          answer = rw (← w);
          rows = rw (← w, few) (p.size ∙ e, p.rows ∙ stored_overlaid before numbers (omega (arith, five_each)), p.borne);
          near = h;
        }

    module _ (l : i < R) where
      one_more : R - i ≡ suc (R - (i + 1))
      one_more = omega arith

      pub rule_refused : {n : ℕ} (r : Result ℕ Refusal) → reached r ≡ failed n → failed n ≡ marked_rule_from marking src S W at
          → RulesTold marking src S W R start r before rules marks
      unfolding unlike_from
      rule_refused {n} r e told = refused_told r n e (rw (one_more, ← told) at p.left)

      module _ (n : RuleNumbers) {next : ℕ} (told : parsed (marked_by n) next ≡ marked_rule_from marking src S W at) {seen : Bool}
          (s : seen ≡ among (key_of n) (take i keys)) where
        -- the keys tell whether the rule is like an earlier one
        alike_seen : any_like marked_alike (marked_by n) p.rs ≡ seen
        alike_seen = like_unmarked (marked_by n) p.rs ∙ p.keyed n tt ∙ sym s

        pub rule_repeated : seen ≡ true → RulesTold marking src S W R start (Err GrammarRepeat) before rules marks
        unfolding unlike_from
        rule_repeated t = refused_told (Err GrammarRepeat) 6 refl (rw (one_more, ← told, alike_seen, t) at p.left)

        pub rule_passed : seen ≡ false → i < length keys → i < length marks
            → ReadSoFar (i + 1) next (set keys i (key_of n)) before (store_all rules (5 * i) (row n)) (set marks i n.mark)
        unfolding unlike_from
        rule_passed f room space =
            let more : map rule_in (p.rs ++ (marked_by n ∷ [])) ≡ map rule_in p.rs ++ (rule_by n ∷ []) = map-append rule_in p.rs (marked_by n ∷ []) in
            record {
              rs = p.rs ++ (marked_by n ∷ []);
              size = simp length-append (omega (arith, p.size));
              keyed = rw more (rules_keyed_more (map rule_in p.rs) keys i (key_of n) n room refl p.keyed);
              rows = rw (more, values_snoc, row_values S W n) (stored_next before 0 numbers (row n) {middle = 5 * i} p.rows (omega (
                arith,
                five_each,
              )) refl refl).0;
              borne = rw (add-one i, take-suc-set marks i n.mark space, p.borne, map-append mark_in p.rs (marked_by n ∷ []));
              left = rw (one_more, ← told, alike_seen, f) at p.left;
            }
