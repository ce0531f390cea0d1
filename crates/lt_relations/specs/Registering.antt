-- The registry with one thing more, and why a thing isn't registered.
use Rattle.std.specs.Prelude.{◌≡◌, [], ◌∷◌, ◌++◌, Bool, ◌&&◌, ◌||◌, Option, Some, None, Result, Ok, Err, find, is_some}
use Rattle.lt_definitions.specs.Types.{Chars, same_name}
use Rattle.lt_hol.specs.declared.property.Property.{Property}
use Rattle.lt_transport_definitions.specs.Relations.{Relator, Correspondence, Parametrised, PropertyRule, DomainRule, Registry, relator_for, property_rule_for, domain_rule_for, kind_of, is_constructor}
use Rattle.lt_transport_definitions.specs.Answers.{first_wrong, wrong_where}
use Rattle.lt_transport_definitions.specs.ParametrisedForm.{is_form_there}
use Rattle.lt_transport_definitions.specs.Commands.{unless_there}
use Rattle.lt_relations.specs.declared.rel_fault.RelFault.{RelFault}
use Rattle.lt_relations.specs.declared.rel_fault.RelFault.TheVariants.{RelatorShape, Duplicate, PropertyShape, DuplicateProperty, DomainShape, DuplicateDomain, Memory}
use Rattle.lt_relations.specs.Told.{property_name}

abbrev pub with_relator : Relator → Registry → Registry
with_relator r G = record G { relators = G.relators ++ r ∷ [] }

-- what is there already stays as it is
abbrev pub with_correspondence : Correspondence → Registry → Registry
with_correspondence d G =
    record G { correspondences = unless_there (λ e. same_name d.name e.name) d G.correspondences }

abbrev pub with_form : Parametrised → Registry → Registry
with_form p G = record G { forms = G.forms ++ p ∷ [] }

abbrev pub with_property_rule : PropertyRule → Registry → Registry
with_property_rule r G = record G {
  property_rules = unless_there
      (λ e. same_name r.property e.property && same_name r.head e.head) r G.property_rules;
}

abbrev pub with_domain_rule : DomainRule → Registry → Registry
with_domain_rule r G =
    record G { domain_rules = unless_there (λ e. same_name r.head e.head) r G.domain_rules }

-- The type constructor has a relator, or else the relator is a relation constructor.
abbrev pub relator_fault : Registry → Relator → Option RelFault
relator_fault G r = first_wrong
    (wrong_where (is_some (relator_for G r.con)) (Duplicate r.con)
    ∷ wrong_where (is_constructor (kind_of G r.rel)) (Duplicate r.rel) ∷ [])

abbrev pub correspondence_fault : Registry → Correspondence → Option RelFault
correspondence_fault G d = wrong_where (is_constructor (kind_of G d.name)) (Duplicate d.name)

-- whether a form has the name, be its correspondence there or not
abbrev pub is_form : Registry → Chars → Bool
is_form G c = is_some (find (λ p. same_name c p.name) G.forms)

-- The correspondence has a form, or the name is a relation constructor's or a form's.
abbrev pub is_taken : Registry → Parametrised → Bool
is_taken G p = is_form_there G p || is_form G p.name

abbrev pub form_fault : Registry → Parametrised → Option RelFault
form_fault G p = wrong_where (is_taken G p) (Duplicate p.name)

abbrev pub property_fault : Registry → Property → Chars → Option RelFault
property_fault G p head =
    wrong_where (is_some (property_rule_for G (property_name p) head)) (DuplicateProperty p head)

abbrev pub domain_fault : Registry → Chars → Option RelFault
domain_fault G head = wrong_where (is_some (domain_rule_for G head)) (DuplicateDomain head)

-- It is refused for this reason, or for want of memory.
abbrev pub IsFault : Option RelFault → RelFault → Type 0
IsFault fault (RelatorShape part) = fault ≡ Some (RelatorShape part)
IsFault fault (Duplicate name) = fault ≡ Some (Duplicate name)
IsFault fault (PropertyShape part) = fault ≡ Some (PropertyShape part)
IsFault fault (DuplicateProperty p name) = fault ≡ Some (DuplicateProperty p name)
IsFault fault DomainShape = fault ≡ Some DomainShape
IsFault fault (DuplicateDomain name) = fault ≡ Some (DuplicateDomain name)
IsFault fault Memory = Unit {0}

-- Nothing is wrong, or this is.
abbrev pub Tests : Option RelFault → Result (Unit {0}) RelFault → Type 0
Tests fault (Ok _) = fault ≡ None
Tests fault (Err e) = IsFault fault e

-- Nothing is wrong and it is registered, or it is refused and all is as before.
abbrev pub Registers : Option RelFault → (old new registered : Registry)
    → Result (Unit {0}) RelFault → Type 0
Registers fault old new registered (Ok _) = (fault ≡ None) × (new ≡ registered)
Registers fault old new registered (Err e) = IsFault fault e × (new ≡ old)
