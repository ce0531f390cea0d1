-- Heads of items are their words with one space between.
use Rattle.std.proofs.Common.{◌≡◌, ◌∙◌, ◌≤◌, ℕ, List, [], ◌∷◌, ◌++◌, length, take, codes, refl, sym, ap, arith, append_assoc}
use Rattle.std.proofs.Math.Seq.{take-length}
use Rattle.lt_definitions.specs.Types.{Chars}
use Rattle.lt_definitions.specs.Terms.{TermTree}
use Rattle.lt_definitions.specs.Items.{typedef_item}
use Rattle.lt_definitions.specs.Printing.{printed_head, printed_term, printed_params, words}
use Rattle.lt_syntax.specs.ItemText.{spaced_params, typedef_head}

-- parameters between a word and further ones
params-words : (n v : Chars) (params ws : List Chars) → words (n ∷ printed_params params (v ∷ ws)) ≡ n ++ (spaced_params params ++ (codes " " ++ words (v ∷ ws)))
params-words n v [] ws = refl
params-words n v (a ∷ params) ws =
    ap (λ s. n ++ (codes " " ++ s)) (params-words (codes "'" ++ a) v params ws)
    ∙ ap (λ s. n ++ (codes " '" ++ s)) (sym (append_assoc a (spaced_params params) (codes " " ++ words (v ∷ ws))))

pub typedef-words : (n : Chars) (params : List Chars) (p : TermTree) (l a b : Chars) → printed_head (typedef_item n params p l a b) ≡ typedef_head n params p l a b
typedef-words n params p l a b =
    ap (λ s. codes "typedef " ++ s) (params-words n (codes ":") params (printed_term [] p ∷ codes "by" ∷ l ∷ codes "abs" ∷ a ∷ codes "rep" ∷ b ∷ []))

-- eleven pieces, one after another
pub eleven : (old a b c d e f g h i j k t1 t2 t3 t4 t5 t6 t7 t8 t9 t10 t11 : Chars) → t1 ≡ old ++ a → t2 ≡ t1 ++ b → t3 ≡ t2 ++ c → t4 ≡ t3 ++ d → t5 ≡ t4 ++ e → t6 ≡ t5 ++ f → t7 ≡ t6 ++ g
    → t8 ≡ t7 ++ h → t9 ≡ t8 ++ i → t10 ≡ t9 ++ j → t11 ≡ t10 ++ k → t11 ≡ old ++ (a ++ (b ++ (c ++ (d ++ (e ++ (f ++ (g ++ (h ++ (i ++ (j ++ k))))))))))
eleven old a b c d e f g h i j k t1 t2 t3 t4 t5 t6 t7 t8 t9 t10 t11 e1 e2 e3 e4 e5 e6 e7 e8 e9 e10 e11 =
    e11 ∙ ap (λ s. s ++ k) (e10 ∙ ap (λ s. s ++ j) (e9 ∙ ap (λ s. s ++ i) (e8 ∙ ap (λ s. s ++ h) (e7 ∙ ap (λ s. s ++ g) (e6 ∙ ap (λ s. s ++ f) (e5 ∙ ap (λ s. s ++ e) (e4 ∙ ap (λ s. s ++ d) (e3 ∙ ap (λ s. s ++ c) (e2 ∙ ap (λ s. s ++ b) e1)))))))))
    ∙ simp append_assoc

pub all-params : (params items : List Chars) (i : ℕ) → i ≤ length items → length items ≤ i → items ≡ params → take i items ≡ params
all-params params items i up down e =
    let same : i ≡ length items = omega arith in ap (λ k. take k items) same ∙ take-length items ∙ e
