use Rattle.std.proofs.Common.{◌≡◌, ◌+◌, ◌<◌, ℕ, List, length, get_or, drop, Some, sym, ap, ◌∙◌, subst, arith, inl, inr, ◌∷◌}
use Rattle.std.specs.List.{slice_get, slice_index}
use Rattle.std.proofs.lemmas.Bool.{cases_lt}
use Rattle.std.proofs.lemmas.List.{drop_more}
use Rattle.std.proofs.lemmas.Option.{slice_get-get_or}
use Rattle.rv_asm.specs.declared.items.Item.{Item}
use Rattle.rv_asm.specs.declared.items.Item.TheVariants.{Mark}
use Rattle.rv_asm.specs.declared.planning.Choice.{Choice}
use Rattle.rv_asm.specs.Choosing.{form_of, size_of}
use Rattle.rv_asm.specs.Planning.{AllReach, Appends, IsSmall}
use Rattle.rv_asm.proofs.Loops.{reach_at, items_more, items_all}
use Rattle.rv_asm.proofs.Whole.{as_long, place_low}
use Rattle.rv_asm.proofs.assembler.planned_words.Goals as goal

pub push_item-requires-clause-to : goal.push_item-requires-clause-to
push_item-requires-clause-to c =
    let plan = c.args.plan.now in
    let target = c.index.result.now.target in
    let at : c.place_at.result ≡ slice_index plan.places.items target = c.place_at.ensures ∙ ap (λ (ps : List ℕ). slice_index ps target) c.deref.ensures.value in
    omega (arith, at, place_low c.args.items.now plan target c.requires.items c.requires.plan)

pub loop-k-preserved : goal.loop-k-preserved
loop-k-preserved c =
    let items = c.args.items.now in
    let plan = c.args.plan.now in
    let places : List ℕ = plan.places.items in
    let choices : List Choice = plan.choices.items in
    let k = c.loop-k.k in
    let here = c.loop-k.here in
    let inv = c.loop-k.invariant in
    let item : Item = get_or items k (Mark 0) in
    let choice : Choice = c.index.result.now in
    let inside : k < length items = c.loop-k-test.true in
    let within : k < length choices = omega (arith, as_long items plan c.requires.plan) in
    let e : drop k items ≡ item ∷ drop (k + 1) items = drop_more items k (Mark 0) inside in
    let f : drop k choices ≡ choice ∷ drop (k + 1) choices = drop_more choices k choice within ∙ ap (λ (x : Choice). x ∷ drop (k + 1) choices) (sym c.index.ensures) in
    let size : here + c.size-here.result ≡ here + size_of choice.near item = ap (λ n. here + n) c.size-here.ensures.size in
    let at : c.place_at.result ≡ slice_index places choice.target = c.place_at.ensures ∙ ap (λ (ps : List ℕ). slice_index ps choice.target) c.deref.ensures.value in
    let A : ℕ → Type 0 = λ to. Appends (form_of choice.near here to item) c.loop-k.words.items c.push_item.new.words.items in
    let R : ℕ → Type 0 = λ n. AllReach places n (drop (k + 1) items) (drop (k + 1) choices) in
    record {
      reach = subst R (sym size) (reach_at places items choices k here item choice e f inv.reach).1;
      built = items_more places items choices k here _ item choice c.loop-k.words.items c.push_item.new.words.items e f size (subst A at c.in_ok-push_item.ensures.words) inv.built;
      small = λ j x below there. elim (cases_lt j k) [
        | inl lower ↦ inv.small j x lower there
        | inr last ↦
            (let same : j ≡ k = omega arith in
            let is : item ≡ x = (let q : Some item ≡ Some x = sym (slice_get-get_or items k (Mark 0) inside) ∙ ap (λ n. slice_get items n) (sym same) ∙ there in cc) in
            subst IsSmall is c.push_item.ensures.small)
      ];
      most = omega (arith, c.size-here.ensures.most, inv.most);
    }

pub returns-clause-small : goal.returns-clause-small
returns-clause-small c = λ i d below.
    let items = c.args.items.now in
    let lower : i < c.loop-k.k = omega (arith, c.loop-k-test.false) in
    c.loop-k.invariant.small i (get_or items i d) lower (slice_get-get_or items i d below)

pub returns-clause-words : goal.returns-clause-words
returns-clause-words c = items_all c.args.plan.now.places.items c.args.items.now c.args.plan.now.choices.items c.loop-k.k c.loop-k.here c.loop-k.words.items c.loop-k-test.false c.loop-k.invariant.built
