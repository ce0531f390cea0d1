use Rattle.std.proofs.Common.{◌≡◌, ◌+◌, ◌-◌, ◌∙◌, ◌++◌, ◌∷◌, [], ap, sym, length, take, drop, arith, List}
use Rattle.lt_transport_definitions.specs.Relations.{relation_row}
use Rattle.lt_expressions.specs.Layout.{forest, behind, sizes}
use Rattle.lt_expressions.proofs.Rows.{HasLast, has-last, row-moved, row-again, row-reads, length-row}
use Rattle.lt_expressions.proofs.rel_builder.RelBuilder.split_last.Goals as goal

pub overflow_sub-len : goal.overflow_sub-len
overflow_sub-len c = omega (arith, c.requires, c.len.ensures, c.self.inside.roots.ok.0, length-row _ _ _ c.self.invariant, ap length c.self.view_is)

pub behind-requires : goal.behind-requires
behind-requires c =
    let l : HasLast c.self.inside.nodes.items c.self.inside.roots.items (forest [] c.self.inside.nodes.items) = has-last _ _ _ c.self.invariant (omega (arith, c.requires, ap length c.self.view_is)) in
    let kept : c.as_slice.result.now ≡ take (length c.self.inside.roots.items - 1) c.self.inside.roots.items =
    c.as_slice.ensures.value ∙ c.truncate.ensures.items ∙ ap (λ n. take (n - 1) c.self.inside.roots.items) (c.len.ensures ∙ c.self.inside.roots.ok.0) in
    omega (arith, ap behind kept, l.fits, c.self.inside.nodes.ok.0, c.self.inside.nodes.small)

pub split_off-requires : goal.split_off-requires
split_off-requires c =
    let l : HasLast c.self.inside.nodes.items c.self.inside.roots.items (forest [] c.self.inside.nodes.items) = has-last _ _ _ c.self.invariant (omega (arith, c.requires, ap length c.self.view_is)) in
    let kept : c.as_slice.result.now ≡ take (length c.self.inside.roots.items - 1) c.self.inside.roots.items =
    c.as_slice.ensures.value ∙ c.truncate.ensures.items ∙ ap (λ n. take (n - 1) c.self.inside.roots.items) (c.len.ensures ∙ c.self.inside.roots.ok.0) in
    omega (arith, c.behind.ensures, ap behind kept, l.fits, c.self.inside.nodes.ok.0)

own : (c : goal.After-as_slice-2) → HasLast c.self.inside.nodes.items c.self.inside.roots.items (forest [] c.self.inside.nodes.items)
own c = has-last _ _ _ c.self.invariant (omega (arith, c.requires, ap length c.self.view_is))

place : (c : goal.After-as_slice-2) → c.behind.result ≡ behind (take (length c.self.inside.roots.items - 1) c.self.inside.roots.items)
place c =
    c.behind.ensures
    ∙ ap behind (c.as_slice.ensures.value ∙ c.truncate.ensures.items ∙ ap (λ n. take (n - 1) c.self.inside.roots.items) (c.len.ensures ∙ c.self.inside.roots.ok.0))

pub remade-requires : goal.remade-requires
remade-requires c =
    (0 + sizes (relation_row (own c).front), (own c).last, c.as_slice-2.ensures.value ∙ c.in_ok-last.ensures.tail ∙ ap (λ n. drop n c.self.inside.nodes.items) (place c) ∙ (own c).tail)

pub invariant_of-result : goal.invariant_of-result
invariant_of-result c =
    let l : HasLast c.self.inside.nodes.items c.self.inside.roots.items (forest [] c.self.inside.nodes.items) = has-last _ _ _ c.self.invariant (omega (arith, c.requires, ap length c.self.view_is)) in
    let kept : c.truncate.new.self.items ≡ take (length c.self.inside.roots.items - 1) c.self.inside.roots.items =
    c.truncate.ensures.items ∙ ap (λ n. take (n - 1) c.self.inside.roots.items) (c.len.ensures ∙ c.self.inside.roots.ok.0) in
    let at : c.behind.result ≡ behind (take (length c.self.inside.roots.items - 1) c.self.inside.roots.items) = c.behind.ensures ∙ ap behind (c.as_slice.ensures.value ∙ kept) in
    row-again _ _ _ (row-moved _ _ _ _ _ (c.in_ok-last.ensures.items ∙ ap (λ n. take n c.self.inside.nodes.items) at) kept l.row)

pub returns : goal.returns
returns c =
    let l : HasLast c.self.inside.nodes.items c.self.inside.roots.items (forest [] c.self.inside.nodes.items) = has-last _ _ _ c.self.invariant (omega (arith, c.requires, ap length c.self.view_is)) in
    let kept : c.truncate.new.self.items ≡ take (length c.self.inside.roots.items - 1) c.self.inside.roots.items =
    c.truncate.ensures.items ∙ ap (λ n. take (n - 1) c.self.inside.roots.items) (c.len.ensures ∙ c.self.inside.roots.ok.0) in
    let at : c.behind.result ≡ behind (take (length c.self.inside.roots.items - 1) c.self.inside.roots.items) = c.behind.ensures ∙ ap behind (c.as_slice.ensures.value ∙ kept) in
    let first : forest [] c.split_off.new.self.items ≡ l.front = row-reads _ _ _ (row-moved _ _ _ _ _ (c.in_ok-last.ensures.items ∙ ap (λ n. take n c.self.inside.nodes.items) at) kept l.row) in
    let last : c.in_ok-last-2.last ≡ l.last = c.in_ok-last-2.ensures _ l.last (c.as_slice-2.ensures.value ∙ c.in_ok-last.ensures.tail ∙ ap (λ n. drop n c.self.inside.nodes.items) at ∙ l.tail) in
    sym c.self.view_is ∙ l.all ∙ (λ i. sym first i ++ sym last i ∷ [])
