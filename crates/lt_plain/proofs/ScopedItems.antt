-- The terms of a valid item have no loose bound names, each in its piece of the item's text.
use Rattle.std.proofs.Common.{◌≡◌, List, [], ◌∷◌, ◌++◌, Some, None}
use Rattle.std.specs.Prelude.{map, Option}
use Rattle.std.specs.List.{flat_map}
use Rattle.lt_texts.specs.declared.lexical.TokenKind.TheVariants.{CloseBrace}
use Rattle.lt_definitions.specs.Types.{Chars, TypeTree, bool, fun}
use Rattle.lt_definitions.specs.Terms.{TermTree, HasNoLooseNames}
use Rattle.lt_definitions.specs.Typing.{Signature, Fault, type_fault, earlier, HasType}
use Rattle.lt_definitions.specs.Rules.{Sequent, Rule, by_assume, by_weaken, by_refl, by_sym, by_trans, by_cong, by_abs, by_beta, by_eta, by_eqmp, by_impI, by_mp, by_allI, by_allE, by_iff, by_inst, by_tinst, by_select, by_ccontr, by_thm}
use Rattle.lt_definitions.specs.Derivations.{term_fault, rule_fault, Derives}
use Rattle.lt_definitions.specs.Items.{Item, type_item, const_item, axiom_item, def_item, typedef_item, lemma_item, Context}
use Rattle.lt_definitions.specs.Extensions.{IsExtension}
use Rattle.lt_nameless.proofs.NamelessTyping.{typed-of}
use Rattle.lt_nameless.proofs.TypeLaws.{typed_terms_have_no_loose_names}
use Rattle.lt_texts.specs.Pieces.{Piece, sign_piece, name_piece, variable_piece, statement_piece, term_piece, keyword, colon, line_text, item_text}

-- the term of a piece, if it has one, has no loose bound name
abbrev pub IsScopedPiece : Piece → Type 0
IsScopedPiece (statement_piece t) = HasNoLooseNames t
IsScopedPiece (term_piece t) = HasNoLooseNames t
IsScopedPiece _ = Unit {0}

abbrev pub AreScopedPieces : List Piece → Type 0
AreScopedPieces [] = Unit {0}
AreScopedPieces (p ∷ ps) = IsScopedPiece p × AreScopedPieces ps

scoped-append : (ps qs : List Piece) → AreScopedPieces ps → AreScopedPieces qs
    → AreScopedPieces (ps ++ qs)
scoped-append [] qs h k = k
scoped-append (p ∷ ps) qs h k = (h.0, scoped-append ps qs h.1 k)

variables-scoped : (names : List Chars) → AreScopedPieces (map variable_piece names)
variables-scoped [] = tt
variables-scoped (a ∷ names) = (tt, variables-scoped names)

sound-scoped : (sig : Signature) (t : TermTree) → term_fault sig t ≡ None → HasNoLooseNames t
sound-scoped sig t e = let k = typed-of sig t e in typed_terms_have_no_loose_names sig t k.0 k.1

-- of two faults the second is wanting where neither is there
second-none : (a b : Option Fault) → earlier a b ≡ None → b ≡ None
second-none None b e = e
second-none (Some f) b e = absurd (cc e)

line-scoped : (sig : Signature) (r : Rule TermTree) → rule_fault sig (term_fault sig) r ≡ None
    → AreScopedPieces (line_text r)
line-scoped sig (by_assume p) e = (tt, (sound-scoped sig p e, (tt, tt)))
line-scoped sig (by_weaken p i) e = (tt, (sound-scoped sig p e, (tt, (tt, tt))))
line-scoped sig (by_refl t) e = (tt, (sound-scoped sig t e, (tt, tt)))
line-scoped sig (by_sym i) e = (tt, (tt, (tt, tt)))
line-scoped sig (by_trans i j) e = (tt, (tt, (tt, (tt, tt))))
line-scoped sig (by_cong i j) e = (tt, (tt, (tt, (tt, tt))))
line-scoped sig (by_abs x ty i) e = (tt, (tt, (tt, (tt, (tt, tt)))))
line-scoped sig (by_beta t) e = (tt, (sound-scoped sig t e, (tt, tt)))
line-scoped sig (by_eta t) e = (tt, (sound-scoped sig t e, (tt, tt)))
line-scoped sig (by_eqmp i j) e = (tt, (tt, (tt, (tt, tt))))
line-scoped sig (by_impI p i) e = (tt, (sound-scoped sig p e, (tt, (tt, tt))))
line-scoped sig (by_mp i j) e = (tt, (tt, (tt, (tt, tt))))
line-scoped sig (by_allI x ty i) e = (tt, (tt, (tt, (tt, (tt, tt)))))
line-scoped sig (by_allE t i) e = (tt, (sound-scoped sig t e, (tt, (tt, tt))))
line-scoped sig (by_iff i j) e = (tt, (tt, (tt, (tt, tt))))
line-scoped sig (by_inst x ty t i) e = (tt, (tt, (tt, (sound-scoped sig t (second-none (type_fault sig ty) (term_fault sig t) e), (tt, (tt, tt))))))
line-scoped sig (by_tinst a ty i) e = (tt, (tt, (tt, (tt, (tt, tt)))))
line-scoped sig (by_select p) e = (tt, (sound-scoped sig p e, (tt, tt)))
line-scoped sig (by_ccontr p) e = (tt, (sound-scoped sig p e, (tt, tt)))
line-scoped sig (by_thm l) e = (tt, (tt, (tt, tt)))

lines-scoped : (sig : Signature) (named : List (Chars × TermTree)) (done : List Sequent)
    (rules : List (Rule TermTree)) (ss : List Sequent) → Derives sig named done rules ss
    → AreScopedPieces (flat_map line_text rules)
lines-scoped sig named done [] ss h = tt
lines-scoped sig named done (r ∷ rules) [] h = absurd h
lines-scoped sig named done (r ∷ rules) (s ∷ ss) h =
    scoped-append (line_text r) (flat_map line_text rules) (line-scoped sig r h.0) (lines-scoped sig named (done ++ s ∷ []) rules ss h.2)

typed-scoped : (sig : Signature) (t : TermTree) (ty : TypeTree) → HasType sig [] t ty
    → HasNoLooseNames t
typed-scoped = typed_terms_have_no_loose_names

pub item_scoped : (ctx : Context) (i : Item) → IsExtension ctx i → AreScopedPieces (item_text i)
item_scoped ctx (type_item n k) h = (tt, (tt, (tt, tt)))
item_scoped ctx (const_item n ty) h = (tt, (tt, (tt, (tt, tt))))
item_scoped ctx (axiom_item l t) h = (tt, (tt, (tt, (typed-scoped ctx.signature t bool (let k = h.0 in k.0), tt))))
item_scoped ctx (def_item n ty body) h = (tt, (tt, (tt, (tt, (tt, (typed-scoped ctx.signature body ty h.typed, tt))))))
item_scoped ctx (typedef_item n params p l a b) h = (
  tt,
  (
    tt,
    scoped-append (map variable_piece params) (colon ∷ statement_piece p ∷ keyword "by" ∷ name_piece l ∷ keyword "abs" ∷ name_piece a ∷ keyword "rep" ∷ name_piece b ∷ [])
        (variables-scoped params) (tt, (typed-scoped ctx.signature p (fun h.raw bool) h.predicate, (tt, (tt, (tt, (tt, (tt, (tt, tt)))))))),
  ),
)
item_scoped ctx (lemma_item l t lines) h =
    let proves = h.2 in (
      tt,
      (
        tt,
        (
          tt,
          (
            typed-scoped ctx.signature t bool (let k = h.0 in k.0),
            (tt, scoped-append (flat_map line_text lines) (sign_piece CloseBrace ∷ []) (lines-scoped ctx.signature ctx.statements [] lines (proves.0 ++ proves.1 ∷ []) proves.2) (tt, tt)),
          ),
        ),
      ),
    )
