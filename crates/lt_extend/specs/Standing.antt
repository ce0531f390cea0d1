-- What a kernel's state stands for, and what stays while an item is added.
use Rattle.std.specs.Prelude.{◌≡◌, List, ◌++◌, None}
use Rattle.lt_definitions.specs.Types.{Chars}
use Rattle.lt_definitions.specs.Terms.{TermTree}
use Rattle.lt_definitions.specs.Items.{Context, Item, empty, context_of}
use Rattle.lt_definitions.specs.Theory.{refusal, IsPlainTheory}
use Rattle.lt_nameless.specs.NamelessRules.{nameless_statements}
use Rattle.lt_store.specs.Trees.{Extends}
use Rattle.lt_kernel.specs.Sequents.{statements_at}
use Rattle.lt_kernel.specs.State.{State, statements, sequents}

-- The same is declared, and the named statements are those of the context, without binder names.
pub record StandsFor (ctx : Context) (s : State) : Type 0 where
  pub signature : s.signature ≡ ctx.signature
  pub statements : statements s ≡ nameless_statements ctx.statements

-- So it is, and the statements that are kept as terms are those of the context.
pub record StandsAs (ctx : Context) (s : State) (kept : List (Chars × TermTree)) : Type 0 where
  pub stands : StandsFor ctx s
  pub statements : kept ≡ ctx.statements

-- A valid item may be added behind these.
pub record IsReady (items : List Item) (s : State) (kept : List (Chars × TermTree))
    (item : Item) : Type 0 where
  pub valid : IsPlainTheory items
  pub stands : StandsAs (context_of empty items) s kept
  pub accepted : refusal (context_of empty items) item ≡ None

-- the second list goes on where the first ends
abbrev pub GoesOn : {A : Type 0} → List A → List A → Type 0
GoesOn {A} old new = (more : List A) × (new ≡ old ++ more)

-- Each id stands for what it stood for, what was declared and stated stays, and more may follow;
-- the lines are the same.
pub record IsBehind (old new : State) : Type 0 where
  pub nodes : Extends old.nodes new.nodes
  pub types : GoesOn old.signature.types new.signature.types
  pub consts : GoesOn old.signature.consts new.signature.consts
  pub named : GoesOn old.named new.named
  pub stated : statements_at new.nodes old.named ≡ statements old
  pub steps : new.steps ≡ old.steps
  pub sequents : sequents new ≡ sequents old
