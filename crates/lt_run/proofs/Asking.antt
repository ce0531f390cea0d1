-- The words of a call, by what was read of them, and what comes of their mode.
use Rattle.std.proofs.Common.{◌≡◌, ◌⊎◌, inl, inr, ℕ, ◌<◌, true, false, List, length, Some, None, sym, ◌∙◌, ap, subst}
use Rattle.std.specs.Prelude.{option_map, encode_utf8_all}
use Rattle.lt_words.specs.declared.mode.Mode.{Mode}
use Rattle.lt_words.specs.declared.mode.Mode.TheVariants.{Run, Check, Laws, Gen}
use Rattle.lt_words.specs.declared.read.Words.{Words}
use Rattle.lt_words.specs.Calls.{Call, asked, call_of, reads_files}
use Rattle.lt_words.proofs.CallLemmas.{files_are_there}
use Rattle.lt_transport_definitions.specs.LawTexts.{laws_text}
use Rattle.lt_transport_definitions.specs.GeneratedTexts.{generated_text}
use Rattle.lt_run.specs.Outcomes.{OfMode}

-- one call is asked for
pub one_call : (words : List (List ℕ)) (a b : Call) → call_of words ≡ Some a → call_of words ≡ Some b → a ≡ b
one_call words a b h k = let same : Some a ≡ Some b = sym h ∙ k in cc same

-- ---- the words were read as these

module _ (words : List (List ℕ)) (w : Words) (read : option_map asked (Some w) ≡ call_of words) where
  pub files_read : reads_files w.mode ≡ true → 0 < length w.files.items
  files_read m = files_are_there words (asked w) (sym read) m

  -- what is known of the files that were read for them is known of those that they ask for
  pub told_by : (K : List (List ℕ) → Type 0) → K w.files.items → (call : Call) → call_of words ≡ Some call → K call.files
  told_by K keeps call a = subst (λ (c : Call). K c.files) (one_call words (asked w) call (sym read) a) keeps

  pub reads_none : ((call : Call) → call_of words ≡ Some call → reads_files call.mode ≡ false) → reads_files w.mode ≡ false
  reads_none none = none (asked w) (sym read)

  pub read_apart : {P : Type 0} → call_of words ≡ None → P
  read_apart none = let apart : Some (asked w) ≡ None = read ∙ none in absurd (cc apart)

-- ---- they weren't

pub none_read : {P : Type 0} (words : List (List ℕ)) (call : Call) → None ≡ call_of words → call_of words ≡ Some call → P
none_read words call none a = let apart : None ≡ Some call = none ∙ a in absurd (cc apart)

-- ---- what comes of a mode

pub in_run : (R C : Type 0) (T : List ℕ → Type 0) (m : Mode) → m ≡ Run → R → OfMode m R C T
in_run R C T m e h = subst (λ (k : Mode). OfMode k R C T) (sym e) h

pub in_check : (R C : Type 0) (T : List ℕ → Type 0) (m : Mode) → m ≡ Check → C → OfMode m R C T
in_check R C T m e h = subst (λ (k : Mode). OfMode k R C T) (sym e) h

pub in_laws : (R C : Type 0) (T : List ℕ → Type 0) (m : Mode) → m ≡ Laws → T (encode_utf8_all laws_text) → OfMode m R C T
in_laws R C T m e h = subst (λ (k : Mode). OfMode k R C T) (sym e) h

pub in_gen : (R C : Type 0) (T : List ℕ → Type 0) (m : Mode) (n : ℕ) → m ≡ Gen n → T (encode_utf8_all (generated_text n)) → OfMode m R C T
in_gen R C T m n e h = subst (λ (k : Mode). OfMode k R C T) (sym e) h

-- nothing came of it, or it stands as far as it came
pub in_part : {N A B : Type 0} → (A → B) → N ⊎ A → N ⊎ B
in_part f (inl n) = inl n
in_part f (inr a) = inr (f a)

pub of_status : {a b : ℕ} → a ≡ b → (a ≡ 4) ⊎ (a ≡ 5) → (b ≡ 4) ⊎ (b ≡ 5)
of_status e (inl four) = inl (sym e ∙ four)
of_status e (inr five) = inr (sym e ∙ five)

-- a mode that reads files doesn't write a text
pub reads_apart : {P : Type 0} (m mode : Mode) → mode ≡ m → reads_files m ≡ true → reads_files mode ≡ false → P
reads_apart m mode same reads none = let apart : true ≡ false = sym reads ∙ sym (ap reads_files same) ∙ none in absurd (cc apart)
