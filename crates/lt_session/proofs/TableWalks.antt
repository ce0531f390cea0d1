-- A walk of the built commands that ends as one over the whole table can is that one.
use Rattle.std.proofs.Common.{◌≡◌, inl, inr, ℕ, List, [], ◌∷◌, refl, ap}
use Rattle.lt_definitions.specs.Items.{Item}
use Rattle.lt_texts.specs.Texts.{Left}
use Rattle.lt_texts.specs.WrongPlaces.{Wrong}
use Rattle.lt_walks.specs.Walks.{End, accepted, too_long, wrong_header, unread, refused, place_of, EndsThere, WalksOn, WalksText, Walks}
use Rattle.lt_transport_definitions.specs.Sessions.{Session, new_session}
use Rattle.lt_transport_definitions.specs.Commands.{CommandRefusal}
use Rattle.lt_transport_definitions.specs.TheoryWalks.{line_of, theory_commands, RunsText}
use Rattle.lt_session.specs.Walks.{by_table, not_built, built_commands, built_end}

end-accepted : (end : End CommandRefusal) → built_end end ≡ accepted → end ≡ accepted
end-accepted accepted e = refl
end-accepted too_long e = absurd (cc e)
end-accepted (wrong_header x) e = absurd (cc e)
end-accepted (unread x) e = absurd (cc e)
end-accepted (refused r place) e = absurd (cc e)

end-too_long : (end : End CommandRefusal) → built_end end ≡ too_long → end ≡ too_long
end-too_long accepted e = absurd (cc e)
end-too_long too_long e = refl
end-too_long (wrong_header x) e = absurd (cc e)
end-too_long (unread x) e = absurd (cc e)
end-too_long (refused r place) e = absurd (cc e)

end-header : (end : End CommandRefusal) (x : Wrong) → built_end end ≡ wrong_header x → end ≡ wrong_header x
end-header accepted x e = absurd (cc e)
end-header too_long x e = absurd (cc e)
end-header (wrong_header y) x e = let same : y ≡ x = cc e in ap wrong_header same
end-header (unread y) x e = absurd (cc e)
end-header (refused r place) x e = absurd (cc e)

end-unread : (end : End CommandRefusal) (x : Wrong) → built_end end ≡ unread x → end ≡ unread x
end-unread accepted x e = absurd (cc e)
end-unread too_long x e = absurd (cc e)
end-unread (wrong_header y) x e = absurd (cc e)
end-unread (unread y) x e = let same : y ≡ x = cc e in ap unread same
end-unread (refused r place) x e = absurd (cc e)

end-refused : (end : End CommandRefusal) (q : CommandRefusal) (at : ℕ) → built_end end ≡ refused (by_table q) at → end ≡ refused q at
end-refused accepted q at e = absurd (cc e)
end-refused too_long q at e = absurd (cc e)
end-refused (wrong_header x) q at e = absurd (cc e)
end-refused (unread x) q at e = absurd (cc e)
end-refused (refused r place) q at e =
    let first : r ≡ q = cc e in
    let second : place ≡ at = cc e in
    λ i. refused (first i) (second i)

end-built : (end : End CommandRefusal) (at : ℕ) → built_end end ≡ refused not_built at → ⊥
end-built accepted at e = cc e
end-built too_long at e = cc e
end-built (wrong_header x) at e = cc e
end-built (unread x) at e = cc e
end-built (refused r place) at e = cc e

there : (limit : ℕ) (s : Session) (at : Left) (end : End CommandRefusal) → EndsThere (built_commands limit) s at (built_end end) → EndsThere (theory_commands limit) s at end
there limit s at end (inl (k, e)) = inl (k, end-accepted end e)
there limit s at end (inr (inl (x, f, e))) = inr (inl (x, f, end-unread end x e))
there limit s at end (inr (inr (c, from, lines, to, b, n, by_table q, is, e))) = inr (inr (c, from, lines, to, b, n, q, is.1, end-refused end q (place_of from lines (line_of q)) e))
there limit s at end (inr (inr (c, from, lines, to, b, n, not_built, is, e))) = absurd (end-built end from e)

on : (limit : ℕ) (s : Session) (at : Left) (blocks : List (List Item)) (end : End CommandRefusal) → WalksOn (built_commands limit) s at blocks (built_end end)
    → WalksOn (theory_commands limit) s at blocks end
on limit s at [] end w = there limit s at end w
on limit s at (items ∷ blocks) end (c, from, lines, to, b, n, later, adds, w) = (c, from, lines, to, b, n, later, adds.1, on limit later b blocks end w)

through : (limit : ℕ) (text : List ℕ) (blocks : List (List Item)) (end : End CommandRefusal) → WalksText (built_commands limit) text blocks (built_end end)
    → WalksText (theory_commands limit) text blocks end
unfolding WalksText
through limit text blocks end (inl (x, h, none, e)) = inl (x, h, none, end-header end x e)
through limit text blocks end (inr (at, h, w)) = inr (at, h, on limit (new_session limit) at blocks end w)

pub runs : (limit : ℕ) (text : List ℕ) (blocks : List (List Item)) (end : End CommandRefusal) → Walks (built_commands limit) text blocks (built_end end) → RunsText limit text blocks end
unfolding Walks
runs limit text blocks end (inl (long, none, e)) = inl (long, none, end-too_long end e)
runs limit text blocks end (inr (short, w)) = inr (short, through limit text blocks end w)
