-- What comes of a call over what never fails.
use Rattle.std.proofs.Common.{◌≡◌, ◌≢◌, ◌⊎◌, inl, inr, ℕ, ◌+◌, ◌<◌, Bool, false, List, [], ◌∷◌, ◌++◌, length, Option, Some, None, refl, sym, ◌∙◌, ap, subst, arith, length-append, append-nil}
use Rattle.std.specs.Prelude.{IsSome}
use Rattle.lt_definitions.specs.Items.{Item}
use Rattle.lt_definitions.specs.Theory.{Refusal}
use Rattle.lt_texts.specs.Files.{File, joined_text}
use Rattle.lt_texts.specs.Walks.{plain_limit}
use Rattle.lt_io.specs.Files.{Files, StaysSame}
use Rattle.lt_walks.specs.Walks.{End, accepted, too_long, Walks}
use Rattle.lt_walks.specs.PlainWalks.{Checks}
use Rattle.lt_walks.specs.Calls.{AreNamed, CheckEnds}
use Rattle.lt_walks.proofs.PlainWalkLemmas.{check_too_long, one_check}
use Rattle.lt_words.specs.declared.mode.Mode.{Mode}
use Rattle.lt_words.specs.declared.mode.Mode.TheVariants.{Run, Check, Laws, Gen}
use Rattle.lt_words.specs.Calls.{Call, call_of, reads_files}
use Rattle.lt_transport_definitions.specs.TheoryWalks.{theory_limit}
use Rattle.lt_session.specs.Walks.{RunRefusal, built_commands}
use Rattle.lt_run.specs.Joining.{AreIn, AreReadWithin, KeepsTold, HoldsAll}
use Rattle.lt_run.specs.Runs.{RunEnds}
use Rattle.lt_run.specs.Outcomes.{OfMode, IsWritten, IsDone, IsRefused}
use Rattle.lt_run.proofs.Asking.{one_call}
use Rattle.lt_run.proofs.Joins.{joined_parts}
use Rattle.lt_run.proofs.OneRun.{one_run}

-- ---- the files that were read

named-once : (told : Files) (names : List (List ℕ)) (xs ys : List File) → AreNamed (Some told) names xs → AreNamed (Some told) names ys → xs ≡ ys
named-once told [] [] [] h k = refl
named-once told [] [] (y ∷ ys) h k = absurd k
named-once told [] (x ∷ xs) ys h k = absurd h
named-once told (n ∷ names) [] ys h k = absurd h
named-once told (n ∷ names) (x ∷ xs) [] h k = absurd k
named-once told (n ∷ names) (x ∷ xs) (y ∷ ys) (e, b, h) (f, c, k) =
    let bytes : Some x.bytes ≡ Some y.bytes = sym b ∙ ap told (e ∙ sym f) ∙ c in
    let one : x.bytes ≡ y.bytes = cc bytes in
    λ i. record { name = (e ∙ sym f) i; bytes = one i } ∷ named-once told names xs ys h k i

-- the first of the files
named-front : (told : Files) (first others : List (List ℕ)) (xs ys : List File) → AreNamed (Some told) (first ++ others) xs → AreNamed (Some told) first ys → (rest : List File) × (xs ≡ ys ++ rest)
named-front told [] others xs [] h k = (xs, refl)
named-front told [] others xs (y ∷ ys) h k = absurd k
named-front told (n ∷ first) others [] ys h k = absurd h
named-front told (n ∷ first) others (x ∷ xs) [] h k = absurd k
named-front told (n ∷ first) others (x ∷ xs) (y ∷ ys) (e, b, h) (f, c, k) =
    let bytes : Some x.bytes ≡ Some y.bytes = sym b ∙ ap told (e ∙ sym f) ∙ c in
    let one : x.bytes ≡ y.bytes = cc bytes in
    let rest = named-front told first others xs ys h k in
    (rest.0, λ i. record { name = (e ∙ sym f) i; bytes = one i } ∷ rest.1 i)

are-in : (told : Files) (names : List (List ℕ)) (held : List File) → AreNamed (Some told) names held → AreIn told names
are-in told [] held h = tt
are-in told (n ∷ names) [] h = absurd h
are-in told (n ∷ names) (f ∷ held) (e, b, h) = (subst (λ (z : List ℕ). IsSome (told z)) e (subst (λ (z : Option (List ℕ)). IsSome z) (sym b) refl), are-in told names held h)

-- What was held before the call is told behind it: the files that were read are those, or the first of them where these are too long already.
one_read : (most : ℕ) (old now : Option Files) (names : List (List ℕ)) (held read : List File) → StaysSame old now → KeepsTold old now names → HoldsAll old names held → AreReadWithin most now names read
    → (read ≡ held) ⊎ ((most < length (joined_text read)) × (most < length (joined_text held)))
one_read most None now names held read same keeps (told, e, h) r = absurd (cc e)
one_read most (Some before) None names held read same keeps (told, e, h) r =
    let agree : before ≡ told = cc e in
    let lost : IsSome {T = Files} None = keeps (subst (λ (z : Files). AreIn z names) (sym agree) (are-in told names held h)) in
    absurd (cc lost)
one_read most (Some before) (Some now) names held read same keeps (told, e, h) r = by r.all
  where
    agree : told ≡ now
    agree = cc (e, same)

    mine : AreNamed (Some now) (r.first ++ r.others) held
    mine = subst (λ (z : List (List ℕ)). AreNamed (Some now) z held) r.order (subst (λ (z : Files). AreNamed (Some z) names held) agree h)

    by : (r.others ≡ []) ⊎ (most < length (joined_text read)) → (read ≡ held) ⊎ ((most < length (joined_text read)) × (most < length (joined_text held)))
    by (inl none) =
        let all : AreNamed (Some now) r.first held = subst (λ (z : List (List ℕ)). AreNamed (Some now) z held) (ap (λ (z : List (List ℕ)). r.first ++ z) none ∙ append-nil r.first) mine in
        inl (named-once now r.first read held r.named all)
    by (inr long) =
        let rest = named-front now r.first r.others held read mine r.named in
        let size : length (joined_text held) ≡ length (joined_text read) + length (joined_text rest.0) =
        ap (λ (z : List File). length (joined_text z)) rest.1 ∙ ap length (joined_parts read rest.0) ∙ length-append (joined_text read) (joined_text rest.0) in
        inr (long, omega (arith, long, size))

-- ---- the end of a walk

check-end : (old now : Option Files) (names : List (List ℕ)) (held : List File) (items found : List Item) (end last : End Refusal) (out out' err err' : Option (List ℕ)) → StaysSame old now
    → KeepsTold old now names → HoldsAll old names held → Checks (joined_text held) items end → CheckEnds now names found last out out' err err' → (found ≡ items) × (last ≡ end)
unfolding CheckEnds
check-end old now names held items found end last out out' err err' same told has walk (read, r, w, v, p, q) =
    by (one_read plain_limit old now names held read same told has (record { first = r.first; others = r.others; order = r.order; named = r.named; all = r.all }))
  where
    by : (read ≡ held) ⊎ ((plain_limit < length (joined_text read)) × (plain_limit < length (joined_text held))) → (found ≡ items) × (last ≡ end)
    by (inl e) = one_check (joined_text held) found items last end (subst (λ (z : List File). Checks (joined_text z) found last) e w) walk
    by (inr (long, also)) =
        let here = one_check (joined_text read) found [] last too_long w (check_too_long (joined_text read) long) in
        let there = one_check (joined_text held) items [] end too_long walk (check_too_long (joined_text held) also) in
        (here.0 ∙ sym there.0, here.1 ∙ sym there.1)

run-end : (old now : Option Files) (names : List (List ℕ)) (limit : ℕ) (summary : Bool) (held : List File) (blocks : List (List Item)) (found : List Item) (end last : End RunRefusal)
    (out out' err err' : Option (List ℕ)) → StaysSame old now → KeepsTold old now names → HoldsAll old names held → Walks (built_commands limit) (joined_text held) blocks end
    → RunEnds now names limit summary found last out out' err err' → last ≡ end
unfolding RunEnds Walks
run-end old now names limit summary held blocks found end last out out' err err' same told has walk (read, r, others, w, is, v, p, q) =
    by (one_read theory_limit old now names held read same told has r)
  where
    by : (read ≡ held) ⊎ ((theory_limit < length (joined_text read)) × (theory_limit < length (joined_text held))) → last ≡ end
    by (inl e) = one_run limit (joined_text held) others blocks last end (subst (λ (z : List File). Walks (built_commands limit) (joined_text z) others last) e w) walk
    by (inr (long, also)) =
        one_run limit (joined_text read) others [] last too_long w (inl (long, refl, refl))
        ∙ sym (one_run limit (joined_text held) blocks [] end too_long walk (inl (also, refl, refl)))

-- ---- what came of a call, by its mode

module _ (call : Call) (now : Option Files) (found : List Item) (out out' err err' : Option (List ℕ)) where
  done-run : call.mode ≡ Run → IsDone call now found out out' err err' → RunEnds now call.files call.limit call.summary found accepted out out' err err'
  done-run e h = subst (λ (m : Mode). OfMode m (RunEnds now call.files call.limit call.summary found accepted out out' err err') (CheckEnds now call.files found accepted out out' err err')
      (λ text. IsWritten text found out out' err err')) e h

  done-check : call.mode ≡ Check → IsDone call now found out out' err err' → CheckEnds now call.files found accepted out out' err err'
  done-check e h = subst (λ (m : Mode). OfMode m (RunEnds now call.files call.limit call.summary found accepted out out' err err') (CheckEnds now call.files found accepted out out' err err')
      (λ text. IsWritten text found out out' err err')) e h

  abbrev RunRefuses : Type 0
  RunRefuses = (end : End RunRefusal) × (end ≢ accepted) × RunEnds now call.files call.limit call.summary found end out out' err err'

  abbrev CheckRefuses : Type 0
  CheckRefuses = (end : End Refusal) × (end ≢ accepted) × CheckEnds now call.files found end out out' err err'

  refused-run : call.mode ≡ Run → IsRefused call now found out out' err err' → RunRefuses
  refused-run e h = subst (λ (m : Mode). OfMode m RunRefuses CheckRefuses (λ text. ⊥)) e h

  refused-check : call.mode ≡ Check → IsRefused call now found out out' err err' → CheckRefuses
  refused-check e h = subst (λ (m : Mode). OfMode m RunRefuses CheckRefuses (λ text. ⊥)) e h

-- ---- the status, by that end

-- Of the four statuses that can come, these say so much of a call that is asked for.
pub record IsKnown (words : List (List ℕ)) (status : ℕ) (now : Option Files) (found : List Item) (out out' err err' : Option (List ℕ)) : Type 0 where
  pub known : (status ≡ 0) ⊎ (status ≡ 1) ⊎ (status ≡ 2) ⊎ (status ≡ 5)
  pub good : status ≡ 0 → (call : Call) × (call_of words ≡ Some call) × IsDone call now found out out' err err'
  pub bad : status ≡ 1 → (call : Call) × (call_of words ≡ Some call) × IsRefused call now found out out' err err'
  pub none : status ≡ 2 → call_of words ≡ None

module _ (words : List (List ℕ)) (status : ℕ) (now : Option Files) (found : List Item) (out out' err err' : Option (List ℕ)) (known : IsKnown words status now found out out' err err')
    (call : Call) (asked : call_of words ≡ Some call) where
  not-none : status ≡ 2 → ⊥
  not-none two = let apart : None ≡ Some call = sym (known.none two) ∙ asked in cc apart

  done : status ≡ 0 → IsDone call now found out out' err err'
  done zero' = let g = known.good zero' in subst (λ (c : Call). IsDone c now found out out' err err') (one_call words g.0 call g.1 asked) g.2

  refused : status ≡ 1 → IsRefused call now found out out' err err'
  refused one = let b = known.bad one in subst (λ (c : Call). IsRefused c now found out out' err err') (one_call words b.0 call b.1 asked) b.2

  -- a text that is asked for is written, or memory runs out
  pub written_alone : reads_files call.mode ≡ false → (status ≡ 0) ⊎ (status ≡ 5)
  written_alone none = by known.known
    where
      no-refusal : (A B : Type 0) (m : Mode) → reads_files m ≡ false → OfMode m A B (λ text. ⊥) → ⊥
      no-refusal A B Run e h = cc e
      no-refusal A B Check e h = cc e
      no-refusal A B Laws e h = h
      no-refusal A B (Gen n) e h = h

      by : (status ≡ 0) ⊎ (status ≡ 1) ⊎ (status ≡ 2) ⊎ (status ≡ 5) → (status ≡ 0) ⊎ (status ≡ 5)
      by (inl zero') = inl zero'
      by (inr (inl one)) = absurd (no-refusal _ _ call.mode none (refused one))
      by (inr (inr (inl two))) = absurd (not-none two)
      by (inr (inr (inr five))) = inr five

  module _ (old : Option Files) (held : List File) (same : StaysSame old now) (told : KeepsTold old now call.files) (has : HoldsAll old call.files held) where
    module _ (mode : call.mode ≡ Run) (blocks : List (List Item)) (end : End RunRefusal) (walk : Walks (built_commands call.limit) (joined_text held) blocks end) where
      run-done : (zero' : status ≡ 0) → end ≡ accepted
      run-done zero' =
          let ends = done-run call now found out out' err err' mode (done zero') in
          sym (run-end old now call.files call.limit call.summary held blocks found end accepted out out' err err' same told has walk ends)

      run-refused : (one : status ≡ 1) → end ≢ accepted
      run-refused one =
          let ends = refused-run call now found out out' err err' mode (refused one) in
          λ all. ends.1 (run-end old now call.files call.limit call.summary held blocks found end ends.0 out out' err err' same told has walk ends.2 ∙ all)

      pub runs_all : end ≡ accepted → (status ≡ 0) ⊎ (status ≡ 5)
      runs_all all = by known.known
        where
          by : (status ≡ 0) ⊎ (status ≡ 1) ⊎ (status ≡ 2) ⊎ (status ≡ 5) → (status ≡ 0) ⊎ (status ≡ 5)
          by (inl zero') = inl zero'
          by (inr (inl one)) = absurd (run-refused one all)
          by (inr (inr (inl two))) = absurd (not-none two)
          by (inr (inr (inr five))) = inr five

      pub runs_stop : end ≢ accepted → (status ≡ 1) ⊎ (status ≡ 5)
      runs_stop wrong = by known.known
        where
          by : (status ≡ 0) ⊎ (status ≡ 1) ⊎ (status ≡ 2) ⊎ (status ≡ 5) → (status ≡ 1) ⊎ (status ≡ 5)
          by (inl zero') = absurd (wrong (run-done zero'))
          by (inr (inl one)) = inl one
          by (inr (inr (inl two))) = absurd (not-none two)
          by (inr (inr (inr five))) = inr five

    module _ (mode : call.mode ≡ Check) (items : List Item) (end : End Refusal) (walk : Checks (joined_text held) items end) where
      check-done : (zero' : status ≡ 0) → (found ≡ items) × (end ≡ accepted)
      check-done zero' =
          let ends = done-check call now found out out' err err' mode (done zero') in
          let one = check-end old now call.files held items found end accepted out out' err err' same told has walk ends in
          (one.0, sym one.1)

      check-refused : (one : status ≡ 1) → (found ≡ items) × (end ≢ accepted)
      check-refused one =
          let ends = refused-check call now found out out' err err' mode (refused one) in
          let same' = check-end old now call.files held items found end ends.0 out out' err err' same told has walk ends.2 in
          (same'.0, λ all. ends.1 (same'.1 ∙ all))

      pub accepts_all : end ≡ accepted → ((status ≡ 0) × (found ≡ items)) ⊎ (status ≡ 5)
      accepts_all all = by known.known
        where
          by : (status ≡ 0) ⊎ (status ≡ 1) ⊎ (status ≡ 2) ⊎ (status ≡ 5) → ((status ≡ 0) × (found ≡ items)) ⊎ (status ≡ 5)
          by (inl zero') = inl (zero', (check-done zero').0)
          by (inr (inl one)) = absurd ((check-refused one).1 all)
          by (inr (inr (inl two))) = absurd (not-none two)
          by (inr (inr (inr five))) = inr five

      pub refuses_wrong : end ≢ accepted → ((status ≡ 1) × (found ≡ items)) ⊎ (status ≡ 5)
      refuses_wrong wrong = by known.known
        where
          by : (status ≡ 0) ⊎ (status ≡ 1) ⊎ (status ≡ 2) ⊎ (status ≡ 5) → ((status ≡ 1) × (found ≡ items)) ⊎ (status ≡ 5)
          by (inl zero') = absurd (wrong (check-done zero').1)
          by (inr (inl one)) = inl (one, (check-refused one).0)
          by (inr (inr (inl two))) = absurd (not-none two)
          by (inr (inr (inr five))) = inr five

-- other words get the usage line, where no write fails, or memory runs out
pub two_alone : (status : ℕ) → (status ≡ 2) ⊎ (status ≡ 4) ⊎ (status ≡ 5) → (status ≡ 0) ⊎ (status ≡ 1) ⊎ (status ≡ 2) ⊎ (status ≡ 5) → (status ≡ 2) ⊎ (status ≡ 5)
two_alone status (inl two) known = inl two
two_alone status (inr (inr five)) known = inr five
two_alone status (inr (inl four)) (inl nought) = absurd (omega (arith, four, nought))
two_alone status (inr (inl four)) (inr (inl one)) = absurd (omega (arith, four, one))
two_alone status (inr (inl four)) (inr (inr (inl two))) = inl two
two_alone status (inr (inl four)) (inr (inr (inr five))) = inr five
