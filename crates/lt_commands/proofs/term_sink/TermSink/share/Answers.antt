-- One more node leaves all earlier places as they were.
use Rattle.std.proofs.Common.{◌≡◌, ◌∙◌, reverse}
use Rattle.std.specs.Prelude.{is_ok}
use Rattle.lt_commands.specs.Places.{terms_at}
use Rattle.lt_commands.proofs.PlaceLemmas.{places_pushed, places-later, terms-more, terms-earlier}
use Rattle.lt_commands.proofs.term_sink.TermSink.share.Goals as goal

pub invariant_of-self-2-clause-roots_within : goal.invariant_of-self-2-clause-roots_within
invariant_of-self-2-clause-roots_within c =
    places_pushed c.args.self.now.lines.nodes c.add_node.new.self.nodes c.args.node c.args.self.now.roots.items c.push.new.self.items c.in_ok-place.place
    (is_ok c.push.result) c.args.self.now.roots_within c.in_ok-place.ensures.ok c.in_ok-place.ensures.place c.push.ensures.items

pub invariant_of-self-2-clause-places_within : goal.invariant_of-self-2-clause-places_within
invariant_of-self-2-clause-places_within c =
    places-later c.args.self.now.lines.nodes c.add_node.new.self.nodes c.args.node c.args.self.now.places.items
    c.args.self.now.places_within c.in_ok-place.ensures.ok

pub returns : goal.returns
returns c =
    let growing = terms-more c.args.self.now.lines.nodes c.add_node.new.self.nodes c.args.node c.args.self.now.roots.items c.push.new.self.items c.in_ok-place.place
    c.args.self.now.roots_within c.in_ok-place.ensures.ok c.in_ok-place.ensures.place c.in_ok-push.ensures.items in
    let shared : terms_at c.add_node.new.self.nodes c.args.self.now.places.items ≡ terms_at c.args.self.now.lines.nodes c.args.self.now.places.items =
    (λ i. terms_at (c.in_ok-place.ensures.ok i) c.args.self.now.places.items)
    ∙ terms-earlier c.args.self.now.lines.nodes c.args.node c.args.self.now.places.items c.args.self.now.places_within in
    λ i. record {
      growing = growing i;
      wholes = reverse c.args.self.now.wholes.items;
      shared = shared i;
      lines = c.in_ok-place.ensures.rules i;
      sharing = c.args.self.now.sharing;
    }
