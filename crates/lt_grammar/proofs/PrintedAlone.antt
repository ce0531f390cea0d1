-- What is printed of a type or a term stands alone in its text.
use Rattle.std.proofs.Common.{refl, [], ◌∷◌}
use Rattle.std.specs.Prelude.{encode_utf8_all}
use Rattle.lt_definitions.specs.Types.{TypeTree}
use Rattle.lt_definitions.specs.Terms.{TermTree}
use Rattle.lt_definitions.specs.Alpha.{IsAlphaEqual}
use Rattle.lt_definitions.specs.Printing.{printed_type, printed_term}
use Rattle.lt_texts.specs.declared.lexical.Lexed.TheVariants.{End}
use Rattle.lt_texts.specs.Texts.{Left, left_of}
use Rattle.lt_texts.specs.Reading.{Shows}
use Rattle.lt_texts.specs.Writing.{TermText, word, bound, free, lambda, applied, term_of_text}
use Rattle.lt_texts.specs.Named.{IsTypeNamed, IsReadable}
use Rattle.lt_texts.specs.WrongPlaces.{EndsAt, IsTypeAt, IsTermAt}
use Rattle.lt_texts.proofs.ReadingOrder.{token_no_end}
use Rattle.lt_grammar.proofs.ReadBack.{printed_term_read, printed_type_read}

-- at the text's end nothing goes on a term
end-ends : (x : TermText) (s : Left) → Shows s End → EndsAt x s
end-ends (word c []) s e = λ t n k. token_no_end s t n e
end-ends (word c (t ∷ ts)) s e = tt
end-ends (bound x) s e = tt
end-ends (free x ty) s e = tt
end-ends (lambda x ty b) s e = tt
end-ends (applied f a more) s e = tt

pub printed_type_alone : (t : TypeTree) → IsTypeNamed t → (s : Left) × IsTypeAt (left_of (encode_utf8_all (printed_type t))) t s × Shows s End
printed_type_alone t n = printed_type_read t n

pub printed_term_alone : (t : TermTree) → IsReadable t
    → (u : TermTree) × (s : Left) × IsTermAt (left_of (encode_utf8_all (printed_term [] t))) u s × Shows s End × IsAlphaEqual u t
printed_term_alone t r =
    let k = printed_term_read t r in
    let x = k.0 in let read = k.1 in
    (term_of_text x, read.0, (x, refl, read.1, end-ends x read.0 read.2), read.2, k.2)
