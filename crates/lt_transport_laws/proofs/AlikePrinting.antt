-- What is alike up to alpha equality prints alike.
use Rattle.std.specs.Prelude.{◌≡◌, ℕ, ◌+◌, suc, List, [], ◌∷◌, ◌++◌, Bool, cond, codes, length, fold}
use Rattle.std.specs.List.{flat_map, count_by}
use Rattle.std.specs.Fmt.{decimal}
use Rattle.std.proofs.Common.{refl, sym, ap, ◌∙◌}
use Rattle.lt_definitions.specs.Types.{Chars}
use Rattle.lt_definitions.specs.Terms.{TermTree}
use Rattle.lt_definitions.specs.Rules.{Rule, by_assume, by_weaken, by_refl, by_sym, by_trans, by_cong, by_abs, by_beta, by_eta, by_eqmp, by_impI, by_mp, by_allI, by_allE, by_iff, by_inst, by_tinst, by_select, by_ccontr, by_thm, rule_map, terms_of, AreAlphaEqual}
use Rattle.lt_definitions.specs.Items.{Item, type_item, const_item, axiom_item, def_item, typedef_item, lemma_item}
use Rattle.lt_definitions.specs.Printing.{printed_type, printed_term, words, type_variable_name, printed_params, printed_rule, printed_head, printed_lines, printed_item, summary_lines, is_axiom, is_lemma}
use Rattle.lt_nameless.proofs.PrintingLemmas.{alpha_prints_alike}
use Rattle.lt_transport_definitions.specs.AlphaItems.{IsAlphaEqualRule, AreAlphaEqualRules, IsAlphaEqualItem, AreAlphaEqualItems}
use Rattle.lt_transport_laws.specs.SessionStatements.{AlikeItemsPrintAlike, AlikeRefusalsPrintAlike}
use Rattle.lt_texts.specs.Files.{in_file}
use Rattle.lt_walks.specs.Walks.{place_of}
use Rattle.lt_walks.specs.Outputs.{line_about}

-- a rule by its shape and what is printed of its term
printed_by : Rule (Unit {0}) → Chars → Chars
printed_by (by_assume p) t = words (codes "assume" ∷ t ∷ [])
printed_by (by_weaken p i) t = words (codes "weaken" ∷ t ∷ decimal i ∷ [])
printed_by (by_refl p) t = words (codes "refl" ∷ t ∷ [])
printed_by (by_sym i) t = words (codes "sym" ∷ decimal i ∷ [])
printed_by (by_trans i j) t = words (codes "trans" ∷ decimal i ∷ decimal j ∷ [])
printed_by (by_cong i j) t = words (codes "cong" ∷ decimal i ∷ decimal j ∷ [])
printed_by (by_abs x ty i) t = words (codes "abs" ∷ x ∷ printed_type ty ∷ decimal i ∷ [])
printed_by (by_beta p) t = words (codes "beta" ∷ t ∷ [])
printed_by (by_eta p) t = words (codes "eta" ∷ t ∷ [])
printed_by (by_eqmp i j) t = words (codes "eqmp" ∷ decimal i ∷ decimal j ∷ [])
printed_by (by_impI p i) t = words (codes "impI" ∷ t ∷ decimal i ∷ [])
printed_by (by_mp i j) t = words (codes "mp" ∷ decimal i ∷ decimal j ∷ [])
printed_by (by_allI x ty i) t = words (codes "allI" ∷ x ∷ printed_type ty ∷ decimal i ∷ [])
printed_by (by_allE p i) t = words (codes "allE" ∷ t ∷ decimal i ∷ [])
printed_by (by_iff i j) t = words (codes "iff" ∷ decimal i ∷ decimal j ∷ [])
printed_by (by_inst x ty p i) t = words (codes "inst" ∷ x ∷ printed_type ty ∷ t ∷ decimal i ∷ [])
printed_by (by_tinst a ty i) t = words (codes "tinst" ∷ type_variable_name a ∷ printed_type ty ∷ decimal i ∷ [])
printed_by (by_select p) t = words (codes "select" ∷ t ∷ [])
printed_by (by_ccontr p) t = words (codes "ccontr" ∷ t ∷ [])
printed_by (by_thm l) t = words (codes "thm" ∷ l ∷ [])

first_printed : List TermTree → Chars
first_printed [] = []
first_printed (t ∷ ts) = printed_term [] t

shape : Rule TermTree → Rule (Unit {0})
shape r = rule_map (λ t. tt) r

by_shape : (r : Rule TermTree) → printed_rule r ≡ printed_by (shape r) (first_printed (terms_of r))
unfolding printed_by first_printed shape
by_shape (by_assume p) = refl
by_shape (by_weaken p i) = refl
by_shape (by_refl p) = refl
by_shape (by_sym i) = refl
by_shape (by_trans i j) = refl
by_shape (by_cong i j) = refl
by_shape (by_abs x ty i) = refl
by_shape (by_beta p) = refl
by_shape (by_eta p) = refl
by_shape (by_eqmp i j) = refl
by_shape (by_impI p i) = refl
by_shape (by_mp i j) = refl
by_shape (by_allI x ty i) = refl
by_shape (by_allE p i) = refl
by_shape (by_iff i j) = refl
by_shape (by_inst x ty p i) = refl
by_shape (by_tinst a ty i) = refl
by_shape (by_select p) = refl
by_shape (by_ccontr p) = refl
by_shape (by_thm l) = refl

firsts-alike : (ts us : List TermTree) → AreAlphaEqual ts us → first_printed ts ≡ first_printed us
unfolding first_printed
firsts-alike [] [] h = refl
firsts-alike [] (u ∷ us) h = absurd h
firsts-alike (t ∷ ts) [] h = absurd h
firsts-alike (t ∷ ts) (u ∷ us) h = alpha_prints_alike t u h.0

rule-alike : (r q : Rule TermTree) → IsAlphaEqualRule r q → printed_rule r ≡ printed_rule q
unfolding shape
rule-alike r q h = by_shape r ∙ ((λ i. printed_by (h.0 i) (firsts-alike (terms_of r) (terms_of q) h.1 i)) ∙ sym (by_shape q))

lines-alike : (rs qs : List (Rule TermTree)) → AreAlphaEqualRules rs qs → printed_lines rs ≡ printed_lines qs
lines-alike [] [] h = refl
lines-alike [] (q ∷ qs) h = absurd h
lines-alike (r ∷ rs) [] h = absurd h
lines-alike (r ∷ rs) (q ∷ qs) h = λ i. (codes "  " ++ (rule-alike r q h.0 i ++ codes ";\n")) ++ lines-alike rs qs h.1 i

-- two items print alike, and are alike axioms and lemmas
PrintAlike : Item → Item → Type 0
PrintAlike i j = (printed_head i ≡ printed_head j) × (printed_item i ≡ printed_item j) × (is_axiom i ≡ is_axiom j) × (is_lemma i ≡ is_lemma j)

same-alike : (i j : Item) → i ≡ j → PrintAlike i j
unfolding PrintAlike
same-alike i j h = (ap printed_head h, ap printed_item h, ap is_axiom h, ap is_lemma h)

typedef-head : (n : Chars) (xs : List Chars) (l a r : Chars) → Chars → Chars
typedef-head n xs l a r t = words (codes "typedef" ∷ n ∷ printed_params xs (codes ":" ∷ t ∷ codes "by" ∷ l ∷ codes "abs" ∷ a ∷ codes "rep" ∷ r ∷ []))

item-alike : (i j : Item) → IsAlphaEqualItem i j → PrintAlike i j
unfolding PrintAlike typedef-head
item-alike (type_item n k) j h = same-alike (type_item n k) j h
item-alike (const_item n ty) j h = same-alike (const_item n ty) j h
item-alike (axiom_item l t) (axiom_item m u) h =
    let e : printed_head (axiom_item l t) ≡ printed_head (axiom_item m u) = λ i. words (codes "axiom" ∷ h.0 i ∷ codes ":" ∷ alpha_prints_alike t u h.1 i ∷ []) in
    (e, ap (λ (x : Chars). x ++ codes ";\n") e, refl, refl)
item-alike (def_item n ty b) (def_item m uy c) h =
    let e : printed_head (def_item n ty b) ≡ printed_head (def_item m uy c) =
    λ i. words (codes "def" ∷ h.0 i ∷ codes ":" ∷ printed_type (h.1 i) ∷ codes ":=" ∷ alpha_prints_alike b c h.2 i ∷ []) in
    (e, ap (λ (x : Chars). x ++ codes ";\n") e, refl, refl)
item-alike (typedef_item n xs p l a r) (typedef_item m ys q k b s) h =
    let e : printed_head (typedef_item n xs p l a r) ≡ printed_head (typedef_item m ys q k b s) =
    λ i. typedef-head (h.0 i) (h.1 i) (h.3 i) (h.4 i) (h.5 i) (alpha_prints_alike p q h.2 i) in
    (e, ap (λ (x : Chars). x ++ codes ";\n") e, refl, refl)
item-alike (lemma_item l t rs) (lemma_item m u qs) h =
    let e : printed_head (lemma_item l t rs) ≡ printed_head (lemma_item m u qs) = λ i. words (codes "lemma" ∷ h.0 i ∷ codes ":" ∷ alpha_prints_alike t u h.1 i ∷ []) in
    (e, (λ i. e i ++ (codes " {\n" ++ (lines-alike rs qs h.2 i ++ codes "};\n"))), refl, refl)
item-alike (axiom_item l t) (type_item m k) h = same-alike (axiom_item l t) (type_item m k) h
item-alike (axiom_item l t) (const_item m uy) h = same-alike (axiom_item l t) (const_item m uy) h
item-alike (axiom_item l t) (def_item m uy u) h = same-alike (axiom_item l t) (def_item m uy u) h
item-alike (axiom_item l t) (typedef_item m ys q k b s) h = same-alike (axiom_item l t) (typedef_item m ys q k b s) h
item-alike (axiom_item l t) (lemma_item m u others) h = same-alike (axiom_item l t) (lemma_item m u others) h
item-alike (def_item n ty b) (type_item m k) h = same-alike (def_item n ty b) (type_item m k) h
item-alike (def_item n ty b) (const_item m uy) h = same-alike (def_item n ty b) (const_item m uy) h
item-alike (def_item n ty b) (axiom_item m u) h = same-alike (def_item n ty b) (axiom_item m u) h
item-alike (def_item n ty b) (typedef_item m ys q k c s) h = same-alike (def_item n ty b) (typedef_item m ys q k c s) h
item-alike (def_item n ty b) (lemma_item m u others) h = same-alike (def_item n ty b) (lemma_item m u others) h
item-alike (typedef_item n xs p l a r) (type_item m k) h = same-alike (typedef_item n xs p l a r) (type_item m k) h
item-alike (typedef_item n xs p l a r) (const_item m uy) h = same-alike (typedef_item n xs p l a r) (const_item m uy) h
item-alike (typedef_item n xs p l a r) (axiom_item m u) h = same-alike (typedef_item n xs p l a r) (axiom_item m u) h
item-alike (typedef_item n xs p l a r) (def_item m uy u) h = same-alike (typedef_item n xs p l a r) (def_item m uy u) h
item-alike (typedef_item n xs p l a r) (lemma_item m u others) h = same-alike (typedef_item n xs p l a r) (lemma_item m u others) h
item-alike (lemma_item l t rs) (type_item m k) h = same-alike (lemma_item l t rs) (type_item m k) h
item-alike (lemma_item l t rs) (const_item m uy) h = same-alike (lemma_item l t rs) (const_item m uy) h
item-alike (lemma_item l t rs) (axiom_item m u) h = same-alike (lemma_item l t rs) (axiom_item m u) h
item-alike (lemma_item l t rs) (def_item m uy u) h = same-alike (lemma_item l t rs) (def_item m uy u) h
item-alike (lemma_item l t rs) (typedef_item m ys q k b s) h = same-alike (lemma_item l t rs) (typedef_item m ys q k b s) h

-- lists of items do

-- so many pass a test, and so many more
counted : (Item → Bool) → ℕ → List Item → ℕ
counted p n items = fold (λ (a : ℕ) (x : Item). a + cond (p x) 1 0) n items

AllAlike : List Item → List Item → Type 0
AllAlike items others = (flat_map printed_item items ≡ flat_map printed_item others) × (summary_lines items ≡ summary_lines others)
    × (length items ≡ length others) × ((n m : ℕ) → n ≡ m → counted is_axiom n items ≡ counted is_axiom m others)
    × ((n m : ℕ) → n ≡ m → counted is_lemma n items ≡ counted is_lemma m others)

all-alike : (items others : List Item) → AreAlphaEqualItems items others → AllAlike items others
unfolding AllAlike PrintAlike counted
all-alike [] [] h = (refl, refl, refl, λ n m e. e, λ n m e. e)
all-alike [] (j ∷ others) h = absurd h
all-alike (i ∷ items) [] h = absurd h
all-alike (i ∷ items) (j ∷ others) h =
    let a = item-alike i j h.0 in
    let r = all-alike items others h.1 in (
      λ k. a.1 k ++ r.0 k,
      λ k. (a.0 k ++ codes "\n") ++ r.1 k,
      ap suc r.2,
      λ n m e. r.3 (n + cond (is_axiom i) 1 0) (m + cond (is_axiom j) 1 0) (λ k. e k + cond (a.2 k) 1 0),
      λ n m e. r.4 (n + cond (is_lemma i) 1 0) (m + cond (is_lemma j) 1 0) (λ k. e k + cond (a.3 k) 1 0),
    )

pub refusals-alike : AlikeRefusalsPrintAlike
refusals-alike s c r h = (h.0, h.1, λ files from lines. λ i. line_about (in_file files (place_of from lines (h.3 i))) (h.2 i))

pub print-alike : AlikeItemsPrintAlike
unfolding AllAlike counted
print-alike items others h =
    let a = all-alike items others h in
    let axioms : count_by is_axiom items ≡ count_by is_axiom others = a.3 0 0 refl in
    let lemmas : count_by is_lemma items ≡ count_by is_lemma others = a.4 0 0 refl in (
      ap (λ (x : Chars). codes "plain 1;\n" ++ x) a.0,
      a.1,
      λ k. words (codes "items" ∷ decimal (a.2 k) ∷ codes "axioms" ∷ decimal (axioms k) ∷ codes "lemmas" ∷ decimal (lemmas k) ∷ []) ++ codes "\n",
    )
