-- How much there was before an item, and what is left where it is dropped.
use Rattle.std.specs.Prelude.{◌≡◌, ℕ, ◌+◌, ◌≤◌, List, [], take, length}
use Rattle.lt_definitions.specs.Types.{Chars}
use Rattle.lt_definitions.specs.Terms.{TermTree}
use Rattle.lt_definitions.specs.Items.{Item, Context, type_item, const_item, axiom_item, def_item, typedef_item, lemma_item}
use Rattle.lt_hol.specs.Faults.{cut}
use Rattle.lt_kernel.specs.State.{State}
use Rattle.lt_extend.specs.declared.drafts.Mark.{Mark}

-- The numbers are those of what is declared and stated.
pub record IsMark (s : State) (entries : List (Chars × TermTree)) (mark : Mark) : Type 0 where
  pub types : mark.proof.sig.types ≡ length s.signature.types
  pub constants : mark.proof.sig.constants ≡ length s.signature.consts
  pub named : mark.proof.statements ≡ length s.named
  pub kept : mark.statements ≡ length entries

-- the first so many types, constants and named statements, and no lines
abbrev pub before : Mark → State → State
before mark s = record s {
  signature = cut mark.proof.sig.types mark.proof.sig.constants s.signature;
  named = take mark.proof.statements s.named;
  steps = [];
}

-- The numbers are those of what a context declares and states.
pub record IsMarkOf (ctx : Context) (mark : Mark) : Type 0 where
  pub types : mark.proof.sig.types ≡ length ctx.signature.types
  pub constants : mark.proof.sig.constants ≡ length ctx.signature.consts
  pub named : mark.proof.statements ≡ length ctx.statements
  pub kept : mark.statements ≡ length ctx.statements

-- How many types, constants and statements an item adds.
pub record Additions : Type 0 where
  pub types : ℕ
  pub constants : ℕ
  pub statements : ℕ

abbrev pub additions : Item → Additions
additions (type_item n k) = record { types = 1; constants = 0; statements = 0 }
additions (const_item n ty) = record { types = 0; constants = 1; statements = 0 }
additions (axiom_item l t) = record { types = 0; constants = 0; statements = 1 }
additions (def_item n ty body) = record { types = 0; constants = 1; statements = 1 }
additions (typedef_item n params p l a b) = record { types = 1; constants = 2; statements = 3 }
additions (lemma_item l t lines) = record { types = 0; constants = 0; statements = 1 }

-- So many are there.
pub record IsAtLeast (a : Additions) (mark : Mark) : Type 0 where
  pub types : a.types ≤ mark.proof.sig.types
  pub constants : a.constants ≤ mark.proof.sig.constants
  pub named : a.statements ≤ mark.proof.statements
  pub kept : a.statements ≤ mark.statements

-- So many fewer are there.
pub record IsWithout (a : Additions) (mark less : Mark) : Type 0 where
  pub types : less.proof.sig.types + a.types ≡ mark.proof.sig.types
  pub constants : less.proof.sig.constants + a.constants ≡ mark.proof.sig.constants
  pub named : less.proof.statements + a.statements ≡ mark.proof.statements
  pub kept : less.statements + a.statements ≡ mark.statements
