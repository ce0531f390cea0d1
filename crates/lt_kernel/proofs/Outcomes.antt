-- What a rule answers: a fault of what it looked for or tested, or the sequent that it made.
use Rattle.std.proofs.Common.{◌≡◌, ℕ, zero, ◌<◌, List, [], length, Bool, true, false, not, if◌then◌else◌, Option, Some, None, Ok, Err, refl, ap, sym, ◌∙◌, subst}
use Rattle.std.specs.Option.{option_map}
use Rattle.lt_definitions.specs.declared.reason.Reason.{Reason}
use Rattle.lt_definitions.specs.Typing.{Signature}
use Rattle.lt_definitions.specs.Rules.{with_found, where_holds}
use Rattle.lt_definitions.proofs.RuleLemmas.{found-on, missing-on, fails-on}
use Rattle.lt_nameless.specs.Nameless.{Nameless, nameless_free, nameless_bound, nameless_loose, nameless_constant, nameless_application, nameless_abstraction}
use Rattle.lt_nameless.specs.NamelessRules.{NamelessOutcome, nameless_gives, nameless_type_of, nameless_equation, nameless_beta, nameless_eta, instance_at, has_index, nameless_beta_gives, nameless_eta_gives}
use Rattle.lt_store.specs.declared.node.Node.{Node}
use Rattle.lt_store.specs.Trees.{tree_at, trees, AllBelow, Extends}
use Rattle.lt_store.proofs.Lists.{trees-extends, AllBelow-wider, AllBelow-none}
use Rattle.lt_formulas.specs.Redexes.{redex_parts, expanded}
use Rattle.lt_kernel.specs.declared.rule_fault.RuleFault.{RuleFault}
use Rattle.lt_kernel.specs.declared.rule_fault.RuleFault.TheVariants.{Bad, Duplicate, Memory}
use Rattle.lt_kernel.specs.declared.sequent.Sequent.{Sequent}
use Rattle.lt_kernel.specs.Sequents.{sequent_at, IsFaultOf, Gives, Finds, Tests}

-- a fault of what is looked for, or of a test, is the outcome's
pub found-fails : {A B : Type 0} (f : A → B) (e : RuleFault) (r : Reason) (o : Option B) (g : B → NamelessOutcome) → Finds f (Err e) r o → IsFaultOf e (with_found r o g)
found-fails f (Bad q) r o g h = missing-on r o g h.0 ∙ ap (λ x. Err x) (sym h.1)
found-fails f (Duplicate l) r o g h = absurd h
found-fails f Memory r o g h = tt

pub test-fails : (e : RuleFault) (r : Reason) (b : Bool) (g : NamelessOutcome) → Tests (Err e) r b → IsFaultOf e (where_holds b r g)
test-fails (Bad q) r b g h = fails-on b r g h.0 ∙ ap (λ x. Err x) (sym h.1)
test-fails (Duplicate l) r b g h = absurd h
test-fails Memory r b g h = tt

-- .. also behind what was found, or a test that held
pub fails-on-found : {A : Type 0} (e : RuleFault) (r : Reason) (o : Option A) (x : A) (f : A → NamelessOutcome) → o ≡ Some x → IsFaultOf e (f x) → IsFaultOf e (with_found r o f)
fails-on-found e r o x f is h = subst (λ p. IsFaultOf e (with_found r p f)) (sym is) h

pub fails-on-test : (e : RuleFault) (b : Bool) (r : Reason) (o : NamelessOutcome) → b ≡ true → IsFaultOf e o → IsFaultOf e (where_holds b r o)
fails-on-test e b r o is h = subst (λ c. IsFaultOf e (where_holds c r o)) (sym is) h

-- the sequent that was made
pub same-sequent : (ns : List Node) (hyps : List ℕ) (concl : ℕ) (hs : List Nameless) (p : Nameless) → trees ns hyps ≡ hs → tree_at ns concl ≡ p
    → nameless_gives hs p ≡ Ok (sequent_at ns (record { hyps = hyps; concl = concl }))
same-sequent ns hyps concl hs p h k = λ i. nameless_gives (sym h i) (sym k i)

-- .. whose hypotheses are of an earlier store
pub gives-later : (old new : List Node) (hyps : List ℕ) (concl : ℕ) (hs : List Nameless) (p : Nameless) (outcome : NamelessOutcome) → Extends old new
    → outcome ≡ nameless_gives hs p → AllBelow (length old) hyps → trees old hyps ≡ hs → concl < length new → tree_at new concl ≡ p
    → Gives new (Ok (record { hyps = hyps; concl = concl })) outcome
gives-later old new hyps concl hs p outcome kept is below h within k =
    (is ∙ same-sequent new hyps concl hs p (trees-extends old new hyps kept below ∙ h) k, (AllBelow-wider (length old) (length new) hyps kept.grows below, within))

pub gives-now : (ns : List Node) (hyps : List ℕ) (concl : ℕ) (hs : List Nameless) (p : Nameless) (outcome : NamelessOutcome)
    → outcome ≡ nameless_gives hs p → AllBelow (length ns) hyps → trees ns hyps ≡ hs → concl < length ns → tree_at ns concl ≡ p
    → Gives ns (Ok (record { hyps = hyps; concl = concl })) outcome
gives-now ns hyps concl hs p outcome is below h within k = (is ∙ same-sequent ns hyps concl hs p h k, (below, within))

-- .. or that has none
pub gives-alone : (ns : List Node) (s : Sequent) (concl : ℕ) (p : Nameless) (outcome : NamelessOutcome) → s ≡ record { hyps = []; concl = concl }
    → outcome ≡ nameless_gives [] p → concl < length ns → tree_at ns concl ≡ p → Gives ns (Ok s) outcome
gives-alone ns s concl p outcome e is within k =
    subst (λ (u : Sequent). Gives ns (Ok u) outcome) (sym e) (gives-now ns [] concl [] p outcome is (AllBelow-none (length ns)) refl within k)

pub not-true : (b : Bool) → not b ≡ true → b ≡ false
not-true true e = absurd (cc e)
not-true false e = refl

-- what an applied abstraction opens to, by its parts
abbrev pub opened : Nameless × Nameless → Nameless
opened p = instance_at 0 p.1 p.0

opened-parts : (t : Nameless) → option_map opened (redex_parts t) ≡ nameless_beta t
opened-parts (nameless_application (nameless_abstraction u b) a) = refl
opened-parts (nameless_application (nameless_free x ty) a) = refl
opened-parts (nameless_application (nameless_bound k) a) = refl
opened-parts (nameless_application (nameless_loose x) a) = refl
opened-parts (nameless_application (nameless_constant c ts) a) = refl
opened-parts (nameless_application (nameless_application f b) a) = refl
opened-parts (nameless_free x ty) = refl
opened-parts (nameless_bound k) = refl
opened-parts (nameless_loose x) = refl
opened-parts (nameless_constant c ts) = refl
opened-parts (nameless_abstraction u b) = refl

pub beta-gives : (sig : Signature) (t b a : Nameless) → redex_parts t ≡ Some (b, a)
    → nameless_beta_gives sig t ≡ nameless_gives [] (nameless_equation (nameless_type_of sig t) t (instance_at 0 a b))
beta-gives sig t b a e = found-on _ _ (instance_at 0 a b) _ (sym (opened-parts t) ∙ ap (option_map opened) e)

-- what an expansion shrinks to
abbrev pub shrunk : Option Nameless → Option Nameless
shrunk None = None
shrunk (Some f) = if not (has_index 0 f) then Some f else None

shrunk-expanded : (t : Nameless) → shrunk (expanded t) ≡ nameless_eta t
shrunk-expanded (nameless_abstraction u (nameless_application f (nameless_bound zero))) = refl
shrunk-expanded t = refl

pub eta-gives : (sig : Signature) (t f : Nameless) → expanded t ≡ Some f → has_index 0 f ≡ false
    → nameless_eta_gives sig t ≡ nameless_gives [] (nameless_equation (nameless_type_of sig t) t f)
eta-gives sig t f e loose = found-on _ _ f _ (sym (shrunk-expanded t) ∙ ap shrunk e ∙ ap (λ b. if not b then Some f else None) loose)
