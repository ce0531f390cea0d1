-- Alpha-equal terms print alike.
use Rattle.std.proofs.Common.{◌≡◌, inl, inr, suc, List, [], ◌∷◌, ◌++◌, Bool, true, false, length, codes, refl, sym, ◌∙◌, ap}
use Rattle.std.specs.Fmt.{decimal}
use Rattle.lt_definitions.specs.Types.{Chars, same_name}
use Rattle.lt_definitions.specs.Terms.{TermTree, free_variable, bound_name, constant, application, abstraction}
use Rattle.lt_definitions.specs.Alpha.{ArePaired, AreAlpha}
use Rattle.lt_definitions.specs.Printing.{printed_type, printed_constant, printed_bound, printed_term, bracketed, printed_part}
use Rattle.lt_definitions.proofs.SameNames.{true-name, false-name}
use Rattle.lt_nameless.proofs.Alphas.{lefts, rights}
use Rattle.lt_nameless.proofs.BindingLemmas.{if-true, if-false}

same_count : (ps : List (Chars × Chars)) → length (lefts ps) ≡ length (rights ps)
same_count [] = refl
same_count (p ∷ ps) = ap suc (same_count ps)

bound-alike : (ps : List (Chars × Chars)) (x y : Chars) → ArePaired ps x y → printed_bound x (lefts ps) ≡ printed_bound y (rights ps)
bound-alike [] x y h = h
bound-alike (p ∷ ps) x y (inl h) =
    if-true (same_name x p.0) (codes "x" ++ decimal (length (lefts ps))) (printed_bound x (lefts ps)) (true-name x p.0 h.0)
    ∙ ap (λ n. codes "x" ++ decimal n) (same_count ps)
    ∙ sym (if-true (same_name y p.1) (codes "x" ++ decimal (length (rights ps))) (printed_bound y (rights ps)) (true-name y p.1 h.1))
bound-alike (p ∷ ps) x y (inr h) =
    if-false (same_name x p.0) (codes "x" ++ decimal (length (lefts ps))) (printed_bound x (lefts ps)) (false-name x p.0 h.0)
    ∙ bound-alike ps x y h.2
    ∙ sym (if-false (same_name y p.1) (codes "x" ++ decimal (length (rights ps))) (printed_bound y (rights ps)) (false-name y p.1 h.1))

alike : (is_head : Bool) (ps : List (Chars × Chars)) (s t : TermTree) → AreAlpha ps s t → printed_part is_head (lefts ps) s ≡ printed_part is_head (rights ps) t
alike is_head ps (free_variable x t) (free_variable y u) h = λ i. codes "($" ++ (h.0 i ++ (codes " " ++ (printed_type (h.1 i) ++ codes ")")))
alike is_head ps (bound_name x) (bound_name y) h = ap (λ n. codes "%" ++ n) (bound-alike ps x y h)
alike is_head ps (constant c ts) (constant d us) h = λ i. printed_constant (h.0 i) (h.1 i)
alike is_head ps (application f a) (application g b) h =
    λ i. bracketed is_head (alike true ps f g h.0 i ++ (codes " " ++ alike false ps a b h.1 i))
alike is_head ps (abstraction x t b) (abstraction y u c) h =
    λ i. codes "(\\x" ++ (decimal (same_count ps i) ++ (codes " " ++ (printed_type (h.0 i) ++ (codes " " ++ (alike false ((x, y) ∷ ps) b c h.1 i ++ codes ")")))))
alike is_head ps s t h = absurd h

pub alpha_prints_alike : (s t : TermTree) → AreAlpha [] s t → printed_term [] s ≡ printed_term [] t
alpha_prints_alike s t h = alike false [] s t h
