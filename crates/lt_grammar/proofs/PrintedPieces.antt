-- What is printed of a line or an item are its pieces, with one space between.
use Rattle.std.proofs.Common.{◌≡◌, ap, refl, List, [], ◌∷◌, ◌++◌, codes}
use Rattle.std.specs.Prelude.{map}
use Rattle.lt_definitions.specs.Types.{Chars}
use Rattle.lt_definitions.specs.Terms.{TermTree}
use Rattle.lt_definitions.specs.Rules.{Rule, by_assume, by_weaken, by_refl, by_sym, by_trans, by_cong, by_abs, by_beta, by_eta, by_eqmp, by_impI, by_mp, by_allI, by_allE, by_iff, by_inst, by_tinst, by_select, by_ccontr, by_thm}
use Rattle.lt_definitions.specs.Items.{Item, type_item, const_item, axiom_item, def_item, typedef_item, lemma_item}
use Rattle.lt_definitions.specs.Printing.{words, printed_rule, printed_head, printed_params}
use Rattle.lt_texts.specs.Pieces.{Piece, variable_piece, statement_piece, name_piece, keyword, colon, rule_text, head_text, printed_piece}

pub printed_rule_pieces : (r : Rule TermTree) → printed_rule r ≡ words (map printed_piece (rule_text r))
printed_rule_pieces (by_assume p) = refl
printed_rule_pieces (by_weaken p i) = refl
printed_rule_pieces (by_refl t) = refl
printed_rule_pieces (by_sym i) = refl
printed_rule_pieces (by_trans i j) = refl
printed_rule_pieces (by_cong i j) = refl
printed_rule_pieces (by_abs x ty i) = refl
printed_rule_pieces (by_beta t) = refl
printed_rule_pieces (by_eta t) = refl
printed_rule_pieces (by_eqmp i j) = refl
printed_rule_pieces (by_impI p i) = refl
printed_rule_pieces (by_mp i j) = refl
printed_rule_pieces (by_allI x ty i) = refl
printed_rule_pieces (by_allE t i) = refl
printed_rule_pieces (by_iff i j) = refl
printed_rule_pieces (by_inst x ty t i) = refl
printed_rule_pieces (by_tinst a ty i) = refl
printed_rule_pieces (by_select p) = refl
printed_rule_pieces (by_ccontr p) = refl
printed_rule_pieces (by_thm l) = refl

params-pieces : (params : List Chars) (ps : List Piece) → printed_params params (map printed_piece ps) ≡ map printed_piece (map variable_piece params ++ ps)
params-pieces [] ps = refl
params-pieces (a ∷ params) ps = ap (λ (z : List Chars). printed_piece (variable_piece a) ∷ z) (params-pieces params ps)

pub printed_head_pieces : (i : Item) → printed_head i ≡ words (map printed_piece (head_text i))
printed_head_pieces (type_item n k) = refl
printed_head_pieces (const_item n ty) = refl
printed_head_pieces (axiom_item l t) = refl
printed_head_pieces (def_item n ty body) = refl
printed_head_pieces (typedef_item n params p l a b) =
    ap (λ (z : List Chars). words (codes "typedef" ∷ n ∷ z)) (params-pieces params (colon ∷ statement_piece p ∷ keyword "by" ∷ name_piece l ∷ keyword "abs" ∷ name_piece a ∷ keyword "rep" ∷ name_piece b ∷ []))
printed_head_pieces (lemma_item l t lines) = refl
