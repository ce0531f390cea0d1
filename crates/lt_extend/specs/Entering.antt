-- What a typedef needs of the kernel's state.
use Rattle.std.specs.Prelude.{◌≡◌, ℕ, List, [], length, None}
use Rattle.lt_definitions.specs.Types.{Chars, found, TypeTree, fun}
use Rattle.lt_definitions.specs.Terms.{TermTree}
use Rattle.lt_definitions.specs.Typing.{Signature, type_fault}
use Rattle.lt_definitions.specs.Items.{new_type, rep_label, rep_inverse_label, abs_inverse_label, rep_statement, rep_inverse_statement, abs_inverse_statement}
use Rattle.lt_nameless.specs.Nameless.{nameless, IsWhole}
use Rattle.lt_hol.specs.Faults.{with_type, with_const}

-- the signature with a typedef's type and the constant from it
abbrev pub with_rep : Chars → List Chars → TypeTree → Chars → Signature → Signature
with_rep n params raw b sig =
    with_const b (fun (new_type n params) raw) (with_type n (length params) sig)

-- and with the constant into it
abbrev pub with_new_type : Chars → List Chars → TypeTree → (a b : Chars) → Signature → Signature
with_new_type n params raw a b sig =
    with_const a (fun raw (new_type n params)) (with_rep n params raw b sig)

-- The names are new, and the types of the constants have no fault once the type is there.
pub record IsNewType (sig : Signature) (n : Chars) (params : List Chars) (raw : TypeTree)
    (a b : Chars) : Type 0 where
  pub type : found n sig.types ≡ None
  pub rep : found b sig.consts ≡ None
  pub abs : found a (with_rep n params raw b sig).consts ≡ None
  pub rep_sound : type_fault (with_type n (length params) sig) (fun (new_type n params) raw) ≡ None
  pub abs_sound : type_fault (with_rep n params raw b sig) (fun raw (new_type n params)) ≡ None

-- A statement whose bound names have binders, under a label that is neither among the kernel's nor
-- among those of the statements that are kept.
pub record IsNewStatement (named : List (Chars × ℕ)) (kept : List (Chars × TermTree))
    (l : Chars) (t : TermTree) : Type 0 where
  pub whole : IsWhole 0 (nameless [] t)
  pub new : found l named ≡ None
  pub fresh : found l kept ≡ None

-- The three statements of a typedef are so.
pub record AreNewStatements (named : List (Chars × ℕ)) (kept : List (Chars × TermTree))
    (n : Chars) (new raw : TypeTree) (p : TermTree) (a b : Chars) : Type 0 where
  pub first : IsNewStatement named kept (rep_label n) (rep_statement new raw p b)
  pub second : IsNewStatement named kept (rep_inverse_label n) (rep_inverse_statement new raw a b)
  pub third : IsNewStatement named kept (abs_inverse_label n) (abs_inverse_statement new raw p a b)
