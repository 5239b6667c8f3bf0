-- One rule, and the turns of the loop over the rules.
use mathlib.Core.Path.{◌≡◌, refl, sym, ap, ◌∙◌}
use mathlib.Core.Bool.{Bool, true, false}
use mathlib.Core.List.{List, [], ◌∷◌, ◌++◌, map, append_assoc, append-nil}
use Prim.Native.Nat.{ℕ, zero, suc, ◌+◌, ◌-◌, ◌*◌, ◌≤◌, ◌<◌}
use native.Mathlib.Omega.{arith}
use lib.Dec.{eqb}
use lib.ListN.{length, get_or, length-append, length-map, replicate, length-replicate, get_or-replicate}
use Rattle.bits.specs.Bits.{pick}
use Rattle.packing.specs.Meaning as M
use Rattle.packing.specs.Store.{store_all}
use Rattle.packing.specs.declared.Sym.{Sym}
use Rattle.packing.specs.declared.Rule as K
use Rattle.packing.specs.declared.Rule.TheVariants.{Pair, Word}
use Rattle.office.specs.Office.{Item, symbol, spoken, OfficeRule, rule, Body}
use Rattle.office.specs.Flat.{item_at, items_at, count_at, office_rule_at, behind, office_rules_at}
use Rattle.office.specs.Conversion.{
  Helper,
  place_of,
  with_words,
  with_chain,
  pair_rule,
  named,
  chain,
  chain_top,
  helper_rules,
  becomes,
  after,
  rules_behind,
  helpers_behind,
}
use Rattle.office.proofs.Steps.{chain_length}
use Rattle.office.proofs.Read.{length_items}
use Rattle.office_conversion.specs.Pass.{rows_of, row_of, symbol_at, symbols_at, tag, Holds, Converted, Passable, AllPassable}
use Rattle.office_conversion.proofs.Rows.{helpers_stored, rule_stored}
use Rattle.office_conversion.proofs.Table.{chain_stays}
use Rattle.office_conversion.proofs.Words.{all_known, symbols_named}

-- a body has one to six items
body_size : (l : List Item) → Body l → (1 ≤ length l) × (length l ≤ 6)
body_size [] h = absurd h
body_size (symbol A ∷ []) h = absurd h
body_size (spoken x ∷ []) h = (omega arith, omega arith)
body_size (symbol A ∷ y ∷ l) h = (omega arith, omega arith)
body_size (spoken x ∷ y ∷ l) h = (omega arith, omega arith)

pub count_size : (s : List ℕ) (p : ℕ) → Passable (office_rule_at s p) → (1 ≤ count_at s p) × (count_at s p ≤ 6)
count_size s p h = omega (arith, body_size (items_at s (p + 3) (count_at s p)) h.0, length_items s (p + 3) (count_at s p))

module _ (s : List ℕ) (S R : ℕ) (a : List ℕ) (hs : List Helper) (rs : List K.Rule) (t : List ℕ) (i : ℕ) (place : i ≡ length rs) (room : i < R) (h w u : ℕ) where
  abbrev read : ℕ → OfficeRule
  read n = rule (M.symbol_of h) w (items_at s u n)

  room_more : (c : K.Rule) → length (rs ++ (c ∷ [])) ≤ R
  room_more c = omega (arith, length-append rs (c ∷ []))

  abbrev one : Bool → Item
  one c = pick c (symbol (M.symbol_of (get_or s (u + 1) 0))) (spoken (M.word (get_or s (u + 1) 0)))

  -- one word
  pub one_passed : (n : ℕ) → n ≡ 1 → Passable (read n) → {rules new : List ℕ} {k : ℕ} → Holds S R a hs rs t rules k
      → new ≡ store_all rules (5 * i) (1 ∷ h ∷ w ∷ get_or s (u + 1) 0 ∷ 0 ∷ [])
      → Holds S R a (after S hs (read n)) (rs ++ (becomes S hs (read n) ∷ [])) t new k
  unfolding items_at becomes after
  one_passed n e b v f = rw e (go (eqb (get_or s u 0) 0) (rw e at b) v f)
    where
      go : (c : Bool) {rules new : List ℕ} {k : ℕ} → Passable (rule (M.symbol_of h) w (one c ∷ [])) → Holds S R a hs rs t rules k
          → new ≡ store_all rules (5 * i) (1 ∷ h ∷ w ∷ get_or s (u + 1) 0 ∷ 0 ∷ [])
          → Holds S R a (after S hs (rule (M.symbol_of h) w (one c ∷ []))) (rs ++ (becomes S hs (rule (M.symbol_of h) w (one c ∷ [])) ∷ [])) t new k
      go true b v f = absurd b.0
      go false b v f =
          let c = Word (M.symbol_of h) (M.word (get_or s (u + 1) 0)) w in
          record { few = room_more c; count = v.count; size = v.size; table = v.table; array = rule_stored v c i place f }

  -- two to six items
  pub more_passed : (n : ℕ) → 1 ≤ n → (n ≡ 1 → ⊥) → Passable (read n) → {rules mid new : List ℕ} {first rest k : ℕ}
      → Holds S R a (with_words (items_at s u n) hs) rs t rules k → first ≡ (symbol_at s t u).0 → rest ≡ (chain_top S k (symbols_at s t (u + 2) (n - 1))).0
      → mid ≡ store_all rules (5 * i) (0 ∷ h ∷ w ∷ first ∷ rest ∷ [])
      → new ≡ store_all mid (5 * (R + k)) (rows_of (helper_rules S k (chain S k (symbols_at s t (u + 2) (n - 1)))))
      → Holds S R a (after S hs (read n)) (rs ++ (becomes S hs (read n) ∷ [])) t new (k + (n - 2))
  unfolding items_at becomes after pair_rule with_chain symbols_at
  more_passed zero l f b v d g e m = absurd (omega arith)
  more_passed (suc zero) l f b v d g e m = absurd (f refl)
  more_passed (suc (suc n)) l f b {rules} {mid} {new} {first} {rest} {k} v d g e m =
      let z : suc (suc n) - 1 ≡ suc n = omega arith in
      let z₂ : suc (suc n) - 2 ≡ n = omega arith in
      let hs' = with_words (items_at s u (suc (suc n))) hs in
      let known = all_known (items_at s u (suc (suc n))) hs in
      let all = symbols_named s t S hs' v.table u (suc (suc n)) known b.1 in
      let x : symbol_at s t u ≡ named S hs' (item_at s u) = cc in
      let l : symbols_at s t (u + 2) (suc n) ≡ map (named S hs') (items_at s (u + 2) (suc n)) = cc in
      let top = chain_top S (length hs') (map (named S hs') (items_at s (u + 2) (suc n))) in
      let c = Pair (M.symbol_of h) (named S hs' (item_at s u)) top w in
      let links = chain S (length hs') (map (named S hs') (items_at s (u + 2) (suc n))) in
      let syms = map (named S hs') (items_at s (u + 2) (suc n)) in
      let d' : first ≡ (named S hs' (item_at s u)).0 = d ∙ ap (λ (X : Sym). X.0) x in
      let g' : rest ≡ top.0 =
      g ∙ ap (λ (q : ℕ). (chain_top S k (symbols_at s t (u + 2) q)).0) z ∙ ap (λ (Xs : List Sym). (chain_top S k Xs).0) l
      ∙ ap (λ (q : ℕ). (chain_top S q syms).0) v.count in
      let e' : mid ≡ store_all rules (5 * i) (row_of c) =
      e ∙ ap (λ (q : ℕ). store_all rules (5 * i) (0 ∷ h ∷ w ∷ q ∷ rest ∷ [])) d'
      ∙ ap (λ (q : ℕ). store_all rules (5 * i) (0 ∷ h ∷ w ∷ (named S hs' (item_at s u)).0 ∷ q ∷ [])) g' in
      let v₁ : Holds S R a hs' (rs ++ (c ∷ [])) t mid k =
      record { few = room_more c; count = v.count; size = v.size; table = v.table; array = rule_stored v c i place e' } in
      let m' : new ≡ store_all mid (5 * (R + k)) (rows_of (helper_rules S k links)) =
      m ∙ ap (λ (q : ℕ). store_all mid (5 * (R + k)) (rows_of (helper_rules S k (chain S k (symbols_at s t (u + 2) q))))) z
      ∙ ap (λ (Xs : List Sym). store_all mid (5 * (R + k)) (rows_of (helper_rules S k (chain S k Xs)))) l
      ∙ ap (λ (q : ℕ). store_all mid (5 * (R + k)) (rows_of (helper_rules S k (chain S q syms)))) v.count in
      let many : length links ≡ n = chain_length S (length hs') (named S hs' (item_at s (u + 2))) (map (named S hs') (items_at s (u + 2 + 2) n))
      ∙ length-map (items_at s (u + 2 + 2) n) (named S hs') ∙ length_items s (u + 2 + 2) n in
      record {
        few = room_more c;
        count = omega (arith, z₂, many, v.count, length-append hs' links);
        size = v.size;
        table = λ y less. v.table y less ∙ sym (chain_stays S y hs' (length hs') (map (named S hs') (items_at s (u + 2) (suc n))));
        array = helpers_stored v₁ links m';
      }

-- the turns of the loop over the rules
module _ (s : List ℕ) (S R : ℕ) (a : List ℕ) where
  pub record ConvertedSoFar (p i k : ℕ) (t rules : List ℕ) : Type 0 where
    pub hs : List Helper
    pub rs : List K.Rule
    pub holds : Holds S R a hs rs t rules k
    pub size : i ≡ length rs
    pub passable : AllPassable (office_rules_at s p (R - i))
    pub helpers_left : helpers_behind S hs (office_rules_at s p (R - i)) ≡ helpers_behind S [] (office_rules_at s 3 R)
    pub rules_left : rs ++ rules_behind S hs (office_rules_at s p (R - i)) ≡ rules_behind S [] (office_rules_at s 3 R)

  pub none_passed : AllPassable (office_rules_at s 3 R) → ConvertedSoFar 3 0 0 (replicate 200 0) a
  unfolding rows_of helper_rules store_all tag place_of
  none_passed h =
      let z : R - 0 ≡ R = omega arith in
      record {
        hs = [];
        rs = [];
        holds = record {
          few = omega arith;
          count = refl;
          size = length-replicate {A = ℕ} 200 0;
          table = λ x l. get_or-replicate {A = ℕ} 200 x 0 0 l;
          array =
              refl;
        };
        size = refl;
        passable = rw z h;
        helpers_left = rw z;
        rules_left = rw z;
      }

  module _ {p i k : ℕ} {t rules : List ℕ} (v : ConvertedSoFar p i k t rules) where
    module _ (l : i < R) where
      unrolled : office_rules_at s p (R - i) ≡ office_rule_at s p ∷ office_rules_at s (behind s p) (R - (i + 1))
      unfolding office_rules_at
      unrolled = let z : R - i ≡ suc (R - (i + 1)) = omega arith in rw z

      both_passable : Passable (office_rule_at s p) × AllPassable (office_rules_at s (behind s p) (R - (i + 1)))
      both_passable = rw unrolled at v.passable

      pub next_passable : Passable (office_rule_at s p)
      next_passable = both_passable.0

      pub one_more : {t' rules' : List ℕ} {k' : ℕ}
          → Holds S R a (after S v.hs (office_rule_at s p)) (v.rs ++ (becomes S v.hs (office_rule_at s p) ∷ [])) t' rules' k'
          → ConvertedSoFar (behind s p) (i + 1) k' t' rules'
      unfolding helpers_behind rules_behind
      one_more h = record {
        hs = after S v.hs (office_rule_at s p);
        rs = v.rs ++ (becomes S v.hs (office_rule_at s p) ∷ []);
        holds = h;
        size = omega (arith, v.size, length-append v.rs (becomes S v.hs (office_rule_at s p) ∷ []));
        passable = both_passable.1;
        helpers_left = rw unrolled at v.helpers_left;
        rules_left = append_assoc v.rs _ _ ∙ (rw unrolled at v.rules_left);
      }

    pub all_passed : R ≤ i → k ≤ 2560 → Converted S R (office_rules_at s 3 R) a rules k
    unfolding office_rules_at helpers_behind rules_behind
    all_passed l few =
        let z : R - i ≡ 0 = omega arith in
        let e : v.hs ≡ helpers_behind S [] (office_rules_at s 3 R) = rw z at v.helpers_left in
        let f : v.rs ++ [] ≡ rules_behind S [] (office_rules_at s 3 R) = rw z at v.rules_left in
        let g : v.rs ≡ rules_behind S [] (office_rules_at s 3 R) = sym (append-nil v.rs) ∙ f in
        record { count = rw (← e) v.holds.count; few = few; array = rw (← e, ← g) v.holds.array }
