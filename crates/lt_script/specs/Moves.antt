-- What a call that takes a word makes of the stack and of the maker.
use Rattle.std.specs.Prelude.{◌≡◌, Bool, true, false, List, [], ◌∷◌, ◌++◌, Option, Some, None}
use Rattle.lt_texts.specs.Lexemes.{Lexeme}
use Rattle.lt_commands.specs.declared.note.Note.{Note}
use Rattle.lt_script.specs.declared.symbol.Symbol.{Symbol}
use Rattle.lt_script.specs.Machine.{Move, under, step_on, passed}
use Rattle.lt_commands.specs.Making.{Made, put_all}
use Rattle.lt_script.specs.Marks.{has_begin}

abbrev pub MovesTo : Bool → Option Move → List Symbol → List Symbol → Made → Made → Type 0
MovesTo true (Some k) stack stack' m m' = (stack' ≡ k.pushed ++ stack) × (m' ≡ put_all k.made m)
MovesTo true None stack stack' m m' = ⊥
MovesTo false o stack stack' m m' = o ≡ None

-- the same for the whole stack
abbrev pub TakesTo : Bool → Option Move → List Symbol → Made → Made → Type 0
TakesTo true (Some k) stack before m = (stack ≡ k.pushed) × (m ≡ put_all k.made before)
TakesTo true None stack before m = ⊥
TakesTo false o stack before m = o ≡ None

-- What was passed over on the way from one stack to another; no line begins with it.
abbrev pub PassedTo : Lexeme → List Symbol → Made → List Symbol → Made → Type 0
PassedTo w before made s m = (done : List Note) × (step_on before w ≡ under [] done (step_on s w))
    × (m ≡ put_all done made) × (has_begin done ≡ false)

-- the newest symbol that isn't passed over, and what is behind it; or there is none
abbrev pub SettlesTo : Lexeme → Option Symbol → List Symbol → Made → List Symbol → Made → Type 0
SettlesTo w None before made s m = step_on before w ≡ None
SettlesTo w (Some x) before made s m = (passed x w ≡ None) × PassedTo w before made (x ∷ s) m
