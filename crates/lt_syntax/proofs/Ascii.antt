-- Bytes of ASCII are their own characters.
use Rattle.std.proofs.Common.{◌≡◌, ℕ, zero, suc, List, [], ◌∷◌, Bool, true, false, ◌&&◌, nat_lt, refl, sym, arith, IsAscii, chars}
use Rattle.std.proofs.lemmas.Bool.{ltb-true}
use Rattle.std.proofs.lemmas.Str.{chars_from_encodes, IsUtf8-from_ascii, encodes-IsAscii}
use Rattle.lt_syntax.specs.Signs.{are_ascii}

pub chars-ascii : (bs : List ℕ) → IsAscii bs → chars bs ≡ bs
chars-ascii bs a = sym (chars_from_encodes bs bs (IsUtf8-from_ascii bs a) (encodes-IsAscii bs a))

both : (a b : Bool) → (a && b) ≡ true → (a ≡ true) × (b ≡ true)
both true b e = (refl, e)
both false b e = absurd (cc)

pub ascii : (cs : List ℕ) → are_ascii cs ≡ true → IsAscii cs
ascii [] e i = omega arith
ascii (c ∷ cs) e zero = let h : nat_lt c 128 ≡ true = (both (nat_lt c 128) (are_ascii cs) e).0 in ltb-true c 128 h
ascii (c ∷ cs) e (suc i) = ascii cs (both (nat_lt c 128) (are_ascii cs) e).1 i
