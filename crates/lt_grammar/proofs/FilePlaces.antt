-- Each place of a text that is joined of files is in one of them.
use Rattle.std.proofs.Common.{◌≡◌, ℕ, ◌+◌, ◌-◌, ◌<◌, ◌≤◌, ◌∙◌, ap, sym, refl, inl, inr, Bool, true, false, List, [], ◌∷◌, ◌++◌, length, take, drop, arith, Option, Some}
use Rattle.std.specs.Prelude.{◌⊎◌, if◌then◌else◌, nat_le}
use Rattle.std.proofs.lemmas.List.{length-append, take-append-drop, length-take-le, take_all}
use Rattle.std.proofs.lemmas.Bool.Decides.{leb_tells}
use Rattle.lt_texts.specs.Files.{File, joined_text, InFile, in_file}

length-joined : (f : File) (files : List File) → length (joined_text (f ∷ files)) ≡ length f.bytes + (1 + length (joined_text files))
length-joined f files = let n = length-append f.bytes (10 ∷ joined_text files) in omega (arith, n)

-- a place of the joined text in one of its files
abbrev pub FoundIn : List File → ℕ → Type 0
FoundIn files place = (p : InFile) × (in_file files place ≡ Some p) × (earlier : List File) × (f : File) × (later : List File) × (files ≡ earlier ++ f ∷ later) × (p.name ≡ f.name)
    × (rest : List ℕ) × (f.bytes ≡ p.before ++ rest) × (place ≡ length (joined_text earlier) + length p.before)

-- a place that passes the test, as the first file's, and another as one of the later ones
abbrev chosen : File → List File → ℕ → Bool → Option InFile
chosen f files place y = if y then Some (record { name = f.name; before = take place f.bytes }) else in_file files (place - (length f.bytes + 1))

first-file : (f : File) (files : List File) (place : ℕ) → place ≤ length f.bytes → in_file (f ∷ files) place ≡ Some (record { name = f.name; before = take place f.bytes })
    → FoundIn (f ∷ files) place
first-file f files place h e =
    let n = length-take-le place f.bytes h in
    (record { name = f.name; before = take place f.bytes }, e, [], f, files, refl, refl, drop place f.bytes, sym (take-append-drop place f.bytes), omega (arith, n))

next-file : (f g : File) (files : List File) (place : ℕ) → ((nat_le place (length f.bytes) ≡ true) × (place ≤ length f.bytes)) ⊎ ((nat_le place (length f.bytes) ≡ false) × (length f.bytes < place))
    → (length f.bytes < place → FoundIn (g ∷ files) (place - (length f.bytes + 1))) → FoundIn (f ∷ g ∷ files) place
next-file f g files place (inl (e, k)) later = first-file f (g ∷ files) place k (ap (chosen f (g ∷ files) place) e)
next-file f g files place (inr (e, k)) later =
    let r = later k in
    let n = length-joined f r.2 in
    let same = r.9 in
    (r.0, ap (chosen f (g ∷ files) place) e ∙ r.1, f ∷ r.2, r.3, r.4, ap (λ (z : List File). f ∷ z) r.5, r.6, r.7, r.8, omega (arith, n, same, k))

pub file_found : (files : List File) (place : ℕ) → place < length (joined_text files) → FoundIn files place
file_found [] place h = absurd (omega (arith, h))
file_found (f ∷ []) place h = let n = length-joined f [] in first-file f [] place (omega (arith, h, n)) refl
file_found (f ∷ g ∷ files) place h =
    let n = length-joined f (g ∷ files) in
    next-file f g files place (leb_tells place (length f.bytes)) (λ k. file_found (g ∷ files) (place - (length f.bytes + 1)) (omega (arith, h, n, k)))

-- ---- the text's end

past-file : (g h : File) (files : List File) → in_file (g ∷ h ∷ files) (length (joined_text (g ∷ h ∷ files))) ≡ in_file (h ∷ files) (length (joined_text (h ∷ files)))
past-file g h files = by (leb_tells place (length g.bytes))
  where
    place : ℕ
    place = length (joined_text (g ∷ h ∷ files))

    by : ((nat_le place (length g.bytes) ≡ true) × (place ≤ length g.bytes)) ⊎ ((nat_le place (length g.bytes) ≡ false) × (length g.bytes < place))
        → in_file (g ∷ h ∷ files) place ≡ in_file (h ∷ files) (length (joined_text (h ∷ files)))
    by (inl (e, k)) = let n = length-joined g (h ∷ files) in absurd (omega (arith, n, k))
    by (inr (e, k)) =
        let n = length-joined g (h ∷ files) in
        let same : place - (length g.bytes + 1) ≡ length (joined_text (h ∷ files)) = omega (arith, n) in
        ap (chosen g (h ∷ files) place) e ∙ ap (in_file (h ∷ files)) same

pub end_found : (files : List File) (f : File) → in_file (files ++ f ∷ []) (length (joined_text (files ++ f ∷ []))) ≡ Some (record { name = f.name; before = f.bytes })
end_found [] f =
    let n = length-joined f [] in
    ap (λ (bytes : List ℕ). let p : Option InFile = Some (record { name = f.name; before = bytes }) in p) (take_all (length (joined_text (f ∷ []))) f.bytes (omega (arith, n)))
end_found (g ∷ []) f = past-file g f [] ∙ end_found [] f
end_found (g ∷ h ∷ files) f = past-file g h (files ++ f ∷ []) ∙ end_found (h ∷ files) f
