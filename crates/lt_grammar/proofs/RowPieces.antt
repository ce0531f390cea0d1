-- Each row of the reader's table agrees with the pieces of its line, item or command: one line a row.
use Rattle.std.proofs.Common.{◌≡◌, ℕ, ◌∙◌, ap, sym, refl, subst, inl, inr, List, [], ◌∷◌, ◌++◌, append_assoc}
use Rattle.std.specs.Prelude.{◌⊎◌, map, codes}
use Rattle.std.specs.List.{flat_map}
use Rattle.lt_texts.specs.declared.lexical.TokenKind.TheVariants as kinds
use Rattle.lt_definitions.specs.Types.{Chars}
use Rattle.lt_definitions.specs.Terms.{TermTree}
use Rattle.lt_definitions.specs.Rules.{Rule, by_assume, by_weaken, by_refl, by_sym, by_trans, by_cong, by_abs, by_beta, by_eta, by_eqmp, by_impI, by_mp, by_allI, by_allE, by_iff, by_inst, by_tinst, by_select, by_ccontr, by_thm}
use Rattle.lt_definitions.specs.Items.{Item, type_item, const_item, axiom_item, def_item, typedef_item, lemma_item}
use Rattle.lt_texts.specs.Lexemes.{Lexeme, a_name, a_variable, a_sign}
use Rattle.lt_texts.specs.Commands.{Command, item_command, law_command, corr_command, relator_command, property_command, domain_command, rule_command, lifting_command, lifting_typedef_command, quotient_type_command, lift_command, parametric_command, param_rule_command, equiv_command, implies_command, carry_command, abs_eq_command, rep_eq_command}
use Rattle.lt_texts.specs.Writing.{term_of_text, type_lexemes, term_lexemes}
use Rattle.lt_texts.specs.Pieces.{Piece, word_piece, sign_piece, name_piece, number_piece, variable_piece, type_piece, statement_piece, term_piece, keyword, semicolon, colon, rule_text, line_text, item_text, command_text, IsWritten, AreWritten}
use Rattle.lt_texts.specs.Forms.{Form, may_stand, first_word, Sentence, header_again, a_command, sentence_text, IsAllowed}
use Rattle.lt_grammar.specs.declared.words.Fixed.{Fixed}
use Rattle.lt_grammar.specs.declared.words.Fixed.TheVariants as signs
use Rattle.lt_grammar.specs.declared.words.Part.{Part}
use Rattle.lt_grammar.specs.declared.words.Part.TheVariants.{Label, Number, Variable, Parameters, AType, AStatement, ATerm, Fixed as Exactly}
use Rattle.lt_grammar.specs.declared.words.RuleWord.{RuleWord}
use Rattle.lt_grammar.specs.declared.words.RuleWord.TheVariants.{Assume, Weaken, Refl, Sym, Trans, Cong, Abs, Beta, Eta, Eqmp, ImpI, Mp, AllI, AllE, Iff, Inst, Tinst, Select, Ccontr, Thm}
use Rattle.lt_grammar.specs.declared.words.ItemWord.{ItemWord}
use Rattle.lt_grammar.specs.declared.words.ItemWord.TheVariants.{TypeItem, Const, Axiom, Def, Typedef}
use Rattle.lt_grammar.specs.declared.words.CommandWord.{CommandWord}
use Rattle.lt_grammar.specs.declared.words.CommandWord.TheVariants.{Law, Corr, Relator, Property, Domain, Rule as RuleCommand, Lifting, LiftingTypedef, QuotientType, Lift, Parametric, ParamRule, Equiv, Implies, Carry, AbsEq, RepEq}
use Rattle.lt_grammar.specs.Rows.{Row, fixed, Text, number, variables_lexemes, Texts, parts_lexemes, FromAll, given_all, Meaning, Meanings, given_meanings}
use Rattle.lt_grammar.specs.Table.{rule_row, item_row, command_row}
use Rattle.lt_grammar.specs.RowTexts.{row_lexemes, row_meaning, LineText, line, lines_lexemes, rule_of_text, PartText, header, item, lemma, command, text_lexemes, MayStand, sentence_of}

-- ---- pieces in a row

pub join_written : (ps qs : List Piece) (ws mid rest : List Lexeme) → AreWritten ps ws mid → AreWritten qs mid rest → AreWritten (ps ++ qs) ws rest
join_written [] qs ws mid rest h k = subst (λ (z : List Lexeme). AreWritten qs z rest) (sym h) k
join_written (p ∷ ps) qs ws mid rest h k = (h.0, h.1, join_written ps qs h.0 mid rest h.2 k)

pub split_written : (ps qs : List Piece) (ws rest : List Lexeme) → AreWritten (ps ++ qs) ws rest → (mid : List Lexeme) × AreWritten ps ws mid × AreWritten qs mid rest
split_written [] qs ws rest h = (ws, refl, h)
split_written (p ∷ ps) qs ws rest h = let r = split_written ps qs h.0 rest h.2 in (r.0, (h.0, h.1, r.1), r.2)

-- ---- what a part stands for, and its pieces

abbrev pub meaning : (p : Part) → Text p → Meaning p
meaning Label n = n
meaning Number k = k
meaning Variable a = a
meaning Parameters names = names
meaning AType ty = ty
meaning AStatement t = term_of_text t
meaning ATerm t = term_of_text t
meaning (Exactly k) u = u

abbrev pub meanings : (ps : List Part) → Texts ps → Meanings ps
meanings [] ts = tt
meanings (p ∷ ps) ts = (meaning p ts.0, meanings ps ts.1)

abbrev pub fixed_piece : Fixed → Piece
fixed_piece signs.Semicolon = sign_piece kinds.Semicolon
fixed_piece signs.Colon = sign_piece kinds.Colon
fixed_piece signs.Becomes = sign_piece kinds.Becomes
fixed_piece signs.OpenBrace = sign_piece kinds.OpenBrace
fixed_piece signs.By = keyword "by"
fixed_piece signs.Abs = keyword "abs"
fixed_piece signs.Rep = keyword "rep"

abbrev pub part_pieces : (p : Part) → Meaning p → List Piece → List Piece
part_pieces Label n more = name_piece n ∷ more
part_pieces Number k more = number_piece k ∷ more
part_pieces Variable a more = variable_piece a ∷ more
part_pieces Parameters names more = map variable_piece names ++ colon ∷ more
part_pieces AType ty more = type_piece ty ∷ more
part_pieces AStatement t more = statement_piece t ∷ more
part_pieces ATerm t more = term_piece t ∷ more
part_pieces (Exactly k) u more = fixed_piece k ∷ more

abbrev pub parts_pieces : (ps : List Part) → Meanings ps → List Piece → List Piece
parts_pieces [] vs more = more
parts_pieces (p ∷ ps) vs more = part_pieces p vs.0 (parts_pieces ps vs.1 more)

given-made : {C : Type 0} (ps : List Part) (f : FromAll ps C) (ts : Texts ps) → given_all ps f ts ≡ given_meanings ps f (meanings ps ts)
given-made [] f ts = refl
given-made (Label ∷ ps) f ts = given-made ps (f ts.0) ts.1
given-made (Number ∷ ps) f ts = given-made ps (f ts.0) ts.1
given-made (Variable ∷ ps) f ts = given-made ps (f ts.0) ts.1
given-made (Parameters ∷ ps) f ts = given-made ps (f ts.0) ts.1
given-made (AType ∷ ps) f ts = given-made ps (f ts.0) ts.1
given-made (AStatement ∷ ps) f ts = given-made ps (f (term_of_text ts.0)) ts.1
given-made (ATerm ∷ ps) f ts = given-made ps (f (term_of_text ts.0)) ts.1
given-made (Exactly k ∷ ps) f ts = given-made ps f ts.1

-- ---- parts and pieces are written alike

fixed-written : (k : Fixed) (ws : List Lexeme) → IsWritten (fixed_piece k) (fixed k ∷ ws) ws
fixed-written signs.Semicolon ws = refl
fixed-written signs.Colon ws = refl
fixed-written signs.Becomes ws = refl
fixed-written signs.OpenBrace ws = refl
fixed-written signs.By ws = refl
fixed-written signs.Abs ws = refl
fixed-written signs.Rep ws = refl

written-fixed : (k : Fixed) (ws rest : List Lexeme) → IsWritten (fixed_piece k) ws rest → ws ≡ fixed k ∷ rest
written-fixed signs.Semicolon ws rest h = h
written-fixed signs.Colon ws rest h = h
written-fixed signs.Becomes ws rest h = h
written-fixed signs.OpenBrace ws rest h = h
written-fixed signs.By ws rest h = h
written-fixed signs.Abs ws rest h = h
written-fixed signs.Rep ws rest h = h

variables-written : (names : List Chars) (more : List Piece) (ws rest : List Lexeme) → AreWritten more ws rest → AreWritten (map variable_piece names ++ more) (variables_lexemes names ws) rest
variables-written [] more ws rest h = h
variables-written (a ∷ names) more ws rest h = (variables_lexemes names ws, refl, variables-written names more ws rest h)

written-variables : (names : List Chars) (more : List Piece) (ws rest : List Lexeme) → AreWritten (map variable_piece names ++ more) ws rest
    → (mid : List Lexeme) × (ws ≡ variables_lexemes names mid) × AreWritten more mid rest
written-variables [] more ws rest h = (ws, refl, h)
written-variables (a ∷ names) more ws rest h =
    let r = written-variables names more h.0 rest h.2 in (r.0, h.1 ∙ ap (λ (z : List Lexeme). a_variable a ∷ z) r.1, r.2)

pub pieces_written : (ps : List Part) (ts : Texts ps) (more : List Piece) (ws rest : List Lexeme) → AreWritten more ws rest
    → AreWritten (parts_pieces ps (meanings ps ts) more) (parts_lexemes ps ts ws) rest
pieces_written [] ts more ws rest h = h
pieces_written (Label ∷ ps) ts more ws rest h = (_, refl, pieces_written ps ts.1 more ws rest h)
pieces_written (Number ∷ ps) ts more ws rest h = (_, refl, pieces_written ps ts.1 more ws rest h)
pieces_written (Variable ∷ ps) ts more ws rest h = (_, refl, pieces_written ps ts.1 more ws rest h)
pieces_written (Parameters ∷ ps) ts more ws rest h = variables-written ts.0 _ _ rest (_, refl, pieces_written ps ts.1 more ws rest h)
pieces_written (AType ∷ ps) ts more ws rest h = (parts_lexemes ps ts.1 ws, refl, pieces_written ps ts.1 more ws rest h)
pieces_written (AStatement ∷ ps) ts more ws rest h = (parts_lexemes ps ts.1 ws, (ts.0, refl, refl), pieces_written ps ts.1 more ws rest h)
pieces_written (ATerm ∷ ps) ts more ws rest h = (parts_lexemes ps ts.1 ws, (ts.0, refl, refl), pieces_written ps ts.1 more ws rest h)
pieces_written (Exactly k ∷ ps) ts more ws rest h = (parts_lexemes ps ts.1 ws, fixed-written k _, pieces_written ps ts.1 more ws rest h)

-- the texts of parts with these lexemes before the rest
abbrev Found : (ps : List Part) → Meanings ps → List Piece → List Lexeme → List Lexeme → Type 0
Found ps vs more ws rest = (ts : Texts ps) × (meanings ps ts ≡ vs) × (mid : List Lexeme) × (ws ≡ parts_lexemes ps ts mid) × AreWritten more mid rest

pub written_pieces : (ps : List Part) (vs : Meanings ps) (more : List Piece) (ws rest : List Lexeme) → AreWritten (parts_pieces ps vs more) ws rest → Found ps vs more ws rest
written_pieces [] vs more ws rest h = (tt, refl, ws, refl, h)
written_pieces (Label ∷ ps) vs more ws rest h =
    let r = written_pieces ps vs.1 more h.0 rest h.2 in
    ((vs.0, r.0), λ i. (vs.0, r.1 i), r.2, h.1 ∙ ap (λ (z : List Lexeme). a_name vs.0 ∷ z) r.3, r.4)
written_pieces (Number ∷ ps) vs more ws rest h =
    let r = written_pieces ps vs.1 more h.0 rest h.2 in
    ((vs.0, r.0), λ i. (vs.0, r.1 i), r.2, h.1 ∙ ap (λ (z : List Lexeme). number vs.0 ∷ z) r.3, r.4)
written_pieces (Variable ∷ ps) vs more ws rest h =
    let r = written_pieces ps vs.1 more h.0 rest h.2 in
    ((vs.0, r.0), λ i. (vs.0, r.1 i), r.2, h.1 ∙ ap (λ (z : List Lexeme). a_variable vs.0 ∷ z) r.3, r.4)
written_pieces (Parameters ∷ ps) vs more ws rest h =
    let v = written-variables vs.0 (colon ∷ parts_pieces ps vs.1 more) ws rest h in
    let r = written_pieces ps vs.1 more v.2.0 rest v.2.2 in (
      (vs.0, r.0),
      λ i. (vs.0, r.1 i),
      r.2,
      v.1 ∙ ap (variables_lexemes vs.0) (v.2.1 ∙ ap (λ (z : List Lexeme). a_sign kinds.Colon ∷ z) r.3),
      r.4,
    )
written_pieces (AType ∷ ps) vs more ws rest h =
    let r = written_pieces ps vs.1 more h.0 rest h.2 in
    ((vs.0, r.0), λ i. (vs.0, r.1 i), r.2, h.1 ∙ ap (type_lexemes vs.0) r.3, r.4)
written_pieces (AStatement ∷ ps) vs more ws rest h =
    let r = written_pieces ps vs.1 more h.0 rest h.2 in
    let x = h.1 in
    ((x.0, r.0), λ i. (x.1 i, r.1 i), r.2, x.2 ∙ ap (term_lexemes x.0) r.3, r.4)
written_pieces (ATerm ∷ ps) vs more ws rest h =
    let r = written_pieces ps vs.1 more h.0 rest h.2 in
    let x = h.1 in
    ((x.0, r.0), λ i. (x.1 i, r.1 i), r.2, x.2 ∙ ap (term_lexemes x.0) r.3, r.4)
written_pieces (Exactly k ∷ ps) vs more ws rest h =
    let r = written_pieces ps vs.1 more h.0 rest h.2 in
    ((vs.0, r.0), λ i. (vs.0, r.1 i), r.2, written-fixed k ws h.0 h.1 ∙ ap (λ (z : List Lexeme). fixed k ∷ z) r.3, r.4)

-- further pieces behind those of parts
pieces-append : (ps : List Part) (vs : Meanings ps) (more later : List Piece) → parts_pieces ps vs more ++ later ≡ parts_pieces ps vs (more ++ later)
pieces-append [] vs more later = refl
pieces-append (Label ∷ ps) vs more later = ap (λ (z : List Piece). name_piece vs.0 ∷ z) (pieces-append ps vs.1 more later)
pieces-append (Number ∷ ps) vs more later = ap (λ (z : List Piece). number_piece vs.0 ∷ z) (pieces-append ps vs.1 more later)
pieces-append (Variable ∷ ps) vs more later = ap (λ (z : List Piece). variable_piece vs.0 ∷ z) (pieces-append ps vs.1 more later)
pieces-append (Parameters ∷ ps) vs more later =
    append_assoc (map variable_piece vs.0) (colon ∷ parts_pieces ps vs.1 more) later
    ∙ ap (λ (z : List Piece). map variable_piece vs.0 ++ colon ∷ z) (pieces-append ps vs.1 more later)
pieces-append (AType ∷ ps) vs more later = ap (λ (z : List Piece). type_piece vs.0 ∷ z) (pieces-append ps vs.1 more later)
pieces-append (AStatement ∷ ps) vs more later = ap (λ (z : List Piece). statement_piece vs.0 ∷ z) (pieces-append ps vs.1 more later)
pieces-append (ATerm ∷ ps) vs more later = ap (λ (z : List Piece). term_piece vs.0 ∷ z) (pieces-append ps vs.1 more later)
pieces-append (Exactly k ∷ ps) vs more later = ap (λ (z : List Piece). fixed_piece k ∷ z) (pieces-append ps vs.1 more later)

-- ---- rows

-- the pieces of a row
abbrev pub row_pieces : {C : Type 0} → (r : Row C) → Meanings r.parts → List Piece
row_pieces r vs = word_piece r.word ∷ parts_pieces r.parts vs []

abbrev pub made_of : {C : Type 0} → (r : Row C) → Meanings r.parts → C
made_of r vs = given_meanings r.parts r.make vs

pub rule-text : (w : RuleWord) (vs : Meanings (rule_row w).parts) → rule_text (made_of (rule_row w) vs) ≡ row_pieces (rule_row w) vs
rule-text Assume vs = refl
rule-text Weaken vs = refl
rule-text Refl vs = refl
rule-text Sym vs = refl
rule-text Trans vs = refl
rule-text Cong vs = refl
rule-text Abs vs = refl
rule-text Beta vs = refl
rule-text Eta vs = refl
rule-text Eqmp vs = refl
rule-text ImpI vs = refl
rule-text Mp vs = refl
rule-text AllI vs = refl
rule-text AllE vs = refl
rule-text Iff vs = refl
rule-text Inst vs = refl
rule-text Tinst vs = refl
rule-text Select vs = refl
rule-text Ccontr vs = refl
rule-text Thm vs = refl

pub item-text : (w : ItemWord) (vs : Meanings (item_row w).parts) → item_text (made_of (item_row w) vs) ≡ row_pieces (item_row w) vs
item-text TypeItem vs = refl
item-text Const vs = refl
item-text Axiom vs = refl
item-text Def vs = refl
item-text Typedef vs = refl

command-text : (w : CommandWord) (vs : Meanings (command_row w).parts) → command_text (made_of (command_row w) vs) ≡ row_pieces (command_row w) vs
command-text Law vs = refl
command-text Corr vs = refl
command-text Relator vs = refl
command-text Property vs = refl
command-text Domain vs = refl
command-text RuleCommand vs = refl
command-text Lifting vs = refl
command-text LiftingTypedef vs = refl
command-text QuotientType vs = refl
command-text Lift vs = refl
command-text Parametric vs = refl
command-text ParamRule vs = refl
command-text Equiv vs = refl
command-text Implies vs = refl
command-text Carry vs = refl
command-text AbsEq vs = refl
command-text RepEq vs = refl

-- the row of a rule
abbrev pub RowOfRule : Rule TermTree → Type 0
RowOfRule r = (w : RuleWord) × (vs : Meanings (rule_row w).parts) × (made_of (rule_row w) vs ≡ r)

pub rule-row : (r : Rule TermTree) → RowOfRule r
rule-row (by_assume p) = (Assume, (p, tt), refl)
rule-row (by_weaken p i) = (Weaken, (p, (i, tt)), refl)
rule-row (by_refl t) = (Refl, (t, tt), refl)
rule-row (by_sym i) = (Sym, (i, tt), refl)
rule-row (by_trans i j) = (Trans, (i, (j, tt)), refl)
rule-row (by_cong i j) = (Cong, (i, (j, tt)), refl)
rule-row (by_abs x ty i) = (Abs, (x, (ty, (i, tt))), refl)
rule-row (by_beta t) = (Beta, (t, tt), refl)
rule-row (by_eta t) = (Eta, (t, tt), refl)
rule-row (by_eqmp i j) = (Eqmp, (i, (j, tt)), refl)
rule-row (by_impI p i) = (ImpI, (p, (i, tt)), refl)
rule-row (by_mp i j) = (Mp, (i, (j, tt)), refl)
rule-row (by_allI x ty i) = (AllI, (x, (ty, (i, tt))), refl)
rule-row (by_allE t i) = (AllE, (t, (i, tt)), refl)
rule-row (by_iff i j) = (Iff, (i, (j, tt)), refl)
rule-row (by_inst x ty t i) = (Inst, (x, (ty, (t, (i, tt)))), refl)
rule-row (by_tinst a ty i) = (Tinst, (a, (ty, (i, tt))), refl)
rule-row (by_select p) = (Select, (p, tt), refl)
rule-row (by_ccontr p) = (Ccontr, (p, tt), refl)
rule-row (by_thm l) = (Thm, (l, tt), refl)

-- a command by its row, or a lemma
abbrev pub RowOfCommand : Command → Type 0
RowOfCommand c = ((w : CommandWord) × (vs : Meanings (command_row w).parts) × (made_of (command_row w) vs ≡ c))
    ⊎ ((w : ItemWord) × (vs : Meanings (item_row w).parts) × (item_command (made_of (item_row w) vs) ≡ c))
    ⊎ ((l : Chars) × (t : TermTree) × (lines : List (Rule TermTree)) × (item_command (lemma_item l t lines) ≡ c))

pub command-row : (c : Command) → RowOfCommand c
command-row (item_command (type_item n k)) = inr (inl (TypeItem, (n, (k, tt)), refl))
command-row (item_command (const_item n ty)) = inr (inl (Const, (n, (tt, (ty, tt))), refl))
command-row (item_command (axiom_item l t)) = inr (inl (Axiom, (l, (tt, (t, tt))), refl))
command-row (item_command (def_item n ty t)) = inr (inl (Def, (n, (tt, (ty, (tt, (t, tt))))), refl))
command-row (item_command (typedef_item n params t l a b)) = inr (inl (Typedef, (n, (params, (t, (tt, (l, (tt, (a, (tt, (b, tt))))))))), refl))
command-row (item_command (lemma_item l t lines)) = inr (inr (l, t, lines, refl))
command-row (law_command w l) = inl (Law, (w, (l, tt)), refl)
command-row (corr_command c) = inl (Corr, (c, tt), refl)
command-row (relator_command k r m e q o) = inl (Relator, (k, (r, (m, (e, (q, (o, tt)))))), refl)
command-row (property_command l) = inl (Property, (l, tt), refl)
command-row (domain_command l) = inl (Domain, (l, tt), refl)
command-row (rule_command l) = inl (RuleCommand, (l, tt), refl)
command-row (lifting_command l) = inl (Lifting, (l, tt), refl)
command-row (lifting_typedef_command q) = inl (LiftingTypedef, (q, tt), refl)
command-row (quotient_type_command q params r l) = inl (QuotientType, (q, (params, (r, (tt, (l, tt))))), refl)
command-row (lift_command n ty t l) = inl (Lift, (n, (tt, (ty, (tt, (t, (tt, (l, tt))))))), refl)
command-row (parametric_command q) = inl (Parametric, (q, tt), refl)
command-row (param_rule_command n l m) = inl (ParamRule, (n, (l, (m, tt))), refl)
command-row (equiv_command n t) = inl (Equiv, (n, (tt, (t, tt))), refl)
command-row (implies_command n t) = inl (Implies, (n, (tt, (t, tt))), refl)
command-row (carry_command n e l) = inl (Carry, (n, (e, (l, tt))), refl)
command-row (abs_eq_command c) = inl (AbsEq, (c, tt), refl)
command-row (rep_eq_command c) = inl (RepEq, (c, tt), refl)

-- a text that has a row's pieces is written vs the row
row-written : {C : Type 0} (r : Row C) (text : List Piece) (ts : Texts r.parts) (rest : List Lexeme) → text ≡ row_pieces r (meanings r.parts ts)
    → AreWritten (text ++ semicolon ∷ []) (row_lexemes r ts rest) rest
row-written r text ts rest e =
    subst (λ (q : List Piece). AreWritten (q ++ semicolon ∷ []) (row_lexemes r ts rest) rest) (sym e) (
      _,
      refl,
      subst (λ (q : List Piece). AreWritten q (parts_lexemes r.parts ts (a_sign kinds.Semicolon ∷ rest)) rest)
          (sym (pieces-append r.parts (meanings r.parts ts) [] (semicolon ∷ [])))
          (pieces_written r.parts ts (semicolon ∷ []) (a_sign kinds.Semicolon ∷ rest) rest (rest, refl, refl)),
    )

written-row : {C : Type 0} (r : Row C) (text : List Piece) (vs : Meanings r.parts) (ws rest : List Lexeme) → text ≡ row_pieces r vs → AreWritten (text ++ semicolon ∷ []) ws rest
    → (ts : Texts r.parts) × (meanings r.parts ts ≡ vs) × (ws ≡ row_lexemes r ts rest)
written-row r text vs ws rest e h =
    let g : AreWritten (row_pieces r vs ++ semicolon ∷ []) ws rest = subst (λ (q : List Piece). AreWritten (q ++ semicolon ∷ []) ws rest) e h in
    let k : AreWritten (parts_pieces r.parts vs (semicolon ∷ [])) g.0 rest =
    subst (λ (q : List Piece). AreWritten q g.0 rest) (pieces-append r.parts vs [] (semicolon ∷ [])) g.2 in
    let f = written_pieces r.parts vs (semicolon ∷ []) g.0 rest k in
    let s = f.4 in
    (f.0, f.1, g.1 ∙ ap (λ (z : List Lexeme). a_name r.word ∷ z) (f.3 ∙ ap (parts_lexemes r.parts f.0) (s.1 ∙ ap (λ (z : List Lexeme). a_sign kinds.Semicolon ∷ z) s.2)))

pub meaning-made : {C : Type 0} (r : Row C) (ts : Texts r.parts) → row_meaning r ts ≡ made_of r (meanings r.parts ts)
meaning-made r ts = given-made r.parts r.make ts

-- ---- lines

line-written : (w : RuleWord) (ts : Texts (rule_row w).parts) (rest : List Lexeme) → AreWritten (line_text (rule_of_text (line w ts))) (row_lexemes (rule_row w) ts rest) rest
line-written w ts rest =
    row-written (rule_row w) (rule_text (rule_of_text (line w ts))) ts rest (ap rule_text (meaning-made (rule_row w) ts) ∙ rule-text w (meanings (rule_row w).parts ts))

pub lines_written : (lines : List LineText) (more : List Piece) (ws rest : List Lexeme) → AreWritten more ws rest
    → AreWritten (flat_map line_text (map rule_of_text lines) ++ more) (lines_lexemes lines ws) rest
lines_written [] more ws rest h = h
lines_written (line w ts ∷ lines) more ws rest h =
    subst (λ (q : List Piece). AreWritten q (row_lexemes (rule_row w) ts (lines_lexemes lines ws)) rest)
    (sym (append_assoc (line_text (rule_of_text (line w ts))) (flat_map line_text (map rule_of_text lines)) more))
    (join_written (line_text (rule_of_text (line w ts))) (flat_map line_text (map rule_of_text lines) ++ more) _ _ rest
    (line-written w ts (lines_lexemes lines ws)) (lines_written lines more ws rest h))

pub written-line : (r : Rule TermTree) (ws rest : List Lexeme) → AreWritten (line_text r) ws rest
    → (w : RuleWord) × (ts : Texts (rule_row w).parts) × (rule_of_text (line w ts) ≡ r) × (ws ≡ row_lexemes (rule_row w) ts rest)
written-line r ws rest h =
    let row = rule-row r in
    let w = row.0 in
    let vs = row.1 in
    let f = written-row (rule_row w) (rule_text r) vs ws rest (ap rule_text (sym row.2) ∙ rule-text w vs) h in
    (w, f.0, meaning-made (rule_row w) f.0 ∙ ap (made_of (rule_row w)) f.1 ∙ row.2, f.2)

pub written_lines : (rules : List (Rule TermTree)) (more : List Piece) (ws rest : List Lexeme) → AreWritten (flat_map line_text rules ++ more) ws rest
    → (lines : List LineText) × (map rule_of_text lines ≡ rules) × (mid : List Lexeme) × (ws ≡ lines_lexemes lines mid) × AreWritten more mid rest
written_lines [] more ws rest h = ([], refl, ws, refl, h)
written_lines (r ∷ rules) more ws rest h =
    let g : AreWritten (line_text r ++ (flat_map line_text rules ++ more)) ws rest =
    subst (λ (q : List Piece). AreWritten q ws rest) (append_assoc (line_text r) (flat_map line_text rules) more) h in
    let s = split_written (line_text r) (flat_map line_text rules ++ more) ws rest g in
    let first = written-line r ws s.0 s.1 in
    let later = written_lines rules more s.0 rest s.2 in
    let w = first.0 in
    (line w first.1 ∷ later.0, λ i. first.2 i ∷ later.1 i, later.2, first.3 ∙ ap (row_lexemes (rule_row w) first.1) later.3, later.4)

-- ---- sentences

-- a lemma's pieces behind its statement
abbrev pub lemma-tail : List (Rule TermTree) → List Piece
lemma-tail rules = flat_map line_text rules ++ (sign_piece kinds.CloseBrace ∷ semicolon ∷ [])

pub lemma-pieces : (l : Chars) (t : TermTree) (rules : List (Rule TermTree))
    → command_text (item_command (lemma_item l t rules)) ++ semicolon ∷ [] ≡ keyword "lemma" ∷ name_piece l ∷ colon ∷ statement_piece t ∷ sign_piece kinds.OpenBrace ∷ lemma-tail rules
lemma-pieces l t rules =
    ap (λ (z : List Piece). keyword "lemma" ∷ name_piece l ∷ colon ∷ statement_piece t ∷ sign_piece kinds.OpenBrace ∷ z)
    (append_assoc (flat_map line_text rules) (sign_piece kinds.CloseBrace ∷ []) (semicolon ∷ []))

item-row-text : (w : ItemWord) (ts : Texts (item_row w).parts) → command_text (item_command (row_meaning (item_row w) ts)) ≡ row_pieces (item_row w) (meanings (item_row w).parts ts)
item-row-text w ts = ap item_text (meaning-made (item_row w) ts) ∙ item-text w (meanings (item_row w).parts ts)

command-row-text : (w : CommandWord) (ts : Texts (command_row w).parts) → command_text (row_meaning (command_row w) ts) ≡ row_pieces (command_row w) (meanings (command_row w).parts ts)
command-row-text w ts = ap command_text (meaning-made (command_row w) ts) ∙ command-text w (meanings (command_row w).parts ts)

pub sentence_written : (f : Form) (p : PartText) (rest : List Lexeme) → AreWritten (sentence_text f (sentence_of p)) (text_lexemes f p rest) rest
sentence_written f header rest = (_, refl, (_, refl, (_, refl, refl)))
sentence_written f (item w ts) rest = row-written (item_row w) (command_text (item_command (row_meaning (item_row w) ts))) ts rest (item-row-text w ts)
sentence_written f (lemma l p lines) rest =
    subst (λ (q : List Piece). AreWritten q (text_lexemes f (lemma l p lines) rest) rest) (sym (lemma-pieces l (term_of_text p) (map rule_of_text lines))) (
      _,
      refl,
      (
        _,
        refl,
        (
          _,
          refl,
          (
            _,
            (p, refl, refl),
            (
              _,
              refl,
              lines_written lines (sign_piece kinds.CloseBrace ∷ semicolon ∷ []) (a_sign kinds.CloseBrace ∷ a_sign kinds.Semicolon ∷ rest) rest (_, refl, (rest, refl, refl)),
            ),
          ),
        ),
      ),
    )
sentence_written f (command w ts) rest = row-written (command_row w) (command_text (row_meaning (command_row w) ts)) ts rest (command-row-text w ts)

pub may_allowed : (f : Form) (p : PartText) → MayStand f p → IsAllowed f (sentence_of p)
may_allowed f header m = tt
may_allowed f (item w ts) m = ap (λ (q : List Piece). may_stand f (first_word q)) (item-row-text w ts) ∙ m
may_allowed f (lemma l p lines) m = m
may_allowed f (command w ts) m = ap (λ (q : List Piece). may_stand f (first_word q)) (command-row-text w ts) ∙ m

pub allowed_may : (f : Form) (p : PartText) → IsAllowed f (sentence_of p) → MayStand f p
allowed_may f header m = tt
allowed_may f (item w ts) m = ap (λ (q : List Piece). may_stand f (first_word q)) (sym (item-row-text w ts)) ∙ m
allowed_may f (lemma l p lines) m = m
allowed_may f (command w ts) m = ap (λ (q : List Piece). may_stand f (first_word q)) (sym (command-row-text w ts)) ∙ m

-- a way to write a sentence, with its lexemes before the rest
abbrev pub Way : Form → Sentence → List Lexeme → List Lexeme → Type 0
Way f x ws rest = (p : PartText) × (sentence_of p ≡ x) × (ws ≡ text_lexemes f p rest)

command-way : (f : Form) (w : CommandWord) (vs : Meanings (command_row w).parts) (ws rest : List Lexeme)
    → AreWritten (sentence_text f (a_command (made_of (command_row w) vs))) ws rest → Way f (a_command (made_of (command_row w) vs)) ws rest
command-way f w vs ws rest h =
    let r = written-row (command_row w) (command_text (made_of (command_row w) vs)) vs ws rest (command-text w vs) h in
    (command w r.0, ap a_command (meaning-made (command_row w) r.0 ∙ ap (made_of (command_row w)) r.1), r.2)

item-way : (f : Form) (w : ItemWord) (vs : Meanings (item_row w).parts) (ws rest : List Lexeme)
    → AreWritten (sentence_text f (a_command (item_command (made_of (item_row w) vs)))) ws rest → Way f (a_command (item_command (made_of (item_row w) vs))) ws rest
item-way f w vs ws rest h =
    let r = written-row (item_row w) (item_text (made_of (item_row w) vs)) vs ws rest (item-text w vs) h in
    (item w r.0, ap (λ (i : Item). a_command (item_command i)) (meaning-made (item_row w) r.0 ∙ ap (made_of (item_row w)) r.1), r.2)

lemma-way : (f : Form) (l : Chars) (t : TermTree) (rules : List (Rule TermTree)) (ws rest : List Lexeme)
    → AreWritten (sentence_text f (a_command (item_command (lemma_item l t rules)))) ws rest → Way f (a_command (item_command (lemma_item l t rules))) ws rest
lemma-way f l t rules ws rest h =
    let g : AreWritten (keyword "lemma" ∷ name_piece l ∷ colon ∷ statement_piece t ∷ sign_piece kinds.OpenBrace ∷ lemma-tail rules) ws rest =
    subst (λ (q : List Piece). AreWritten q ws rest) (lemma-pieces l t rules) h in
    let a = g.2 in let b = a.2 in let c = b.2 in let d = c.2 in
    let x = c.1 in
    let r = written_lines rules (sign_piece kinds.CloseBrace ∷ semicolon ∷ []) d.0 rest d.2 in
    let z = r.4 in let y = z.2 in (
      lemma l x.0 r.0,
      λ i. a_command (item_command (lemma_item l (x.1 i) (r.1 i))),
      g.1 ∙ ap (λ (q : List Lexeme). a_name (codes "lemma") ∷ q) (a.1 ∙ ap (λ (q : List Lexeme). a_name l ∷ q) (b.1 ∙ ap (λ (q : List Lexeme). a_sign kinds.Colon ∷ q)
          (x.2 ∙ ap (term_lexemes x.0) (d.1 ∙ ap (λ (q : List Lexeme). a_sign kinds.OpenBrace ∷ q)
          (r.3 ∙ ap (lines_lexemes r.0) (z.1 ∙ ap (λ (q : List Lexeme). a_sign kinds.CloseBrace ∷ q) (y.1 ∙ ap (λ (q : List Lexeme). a_sign kinds.Semicolon ∷ q) y.2))))))),
    )

by-row : (f : Form) (c : Command) (ws rest : List Lexeme) → RowOfCommand c → AreWritten (sentence_text f (a_command c)) ws rest → Way f (a_command c) ws rest
by-row f c ws rest (inl r) h =
    subst (λ (d : Command). Way f (a_command d) ws rest) r.2 (command-way f r.0 r.1 ws rest (subst (λ (d : Command). AreWritten (sentence_text f (a_command d)) ws rest) (sym r.2) h))
by-row f c ws rest (inr (inl r)) h =
    subst (λ (d : Command). Way f (a_command d) ws rest) r.2 (item-way f r.0 r.1 ws rest (subst (λ (d : Command). AreWritten (sentence_text f (a_command d)) ws rest) (sym r.2) h))
by-row f c ws rest (inr (inr r)) h =
    subst (λ (d : Command). Way f (a_command d) ws rest) r.3
    (lemma-way f r.0 r.1 r.2 ws rest (subst (λ (d : Command). AreWritten (sentence_text f (a_command d)) ws rest) (sym r.3) h))

pub written_sentence : (f : Form) (x : Sentence) (ws rest : List Lexeme) → AreWritten (sentence_text f x) ws rest → Way f x ws rest
written_sentence f header_again ws rest h =
    let a = h.2 in let b = a.2 in
    (header, refl, h.1 ∙ ap (λ (q : List Lexeme). a_name f.word ∷ q) (a.1 ∙ ap (λ (q : List Lexeme). number f.number ∷ q) (b.1 ∙ ap (λ (q : List Lexeme). a_sign kinds.Semicolon ∷ q) b.2)))
written_sentence f (a_command c) ws rest h = by-row f c ws rest (command-row c) h
