-- Before the traits there are none, and before the closures.
use Rattle.std.proofs.Common.{rules, ◌≡◌, ap, ◌∙◌}
use Rattle.mir_text.specs.SectionReading.{ItemsSeen, one_adt, one_trait, one_impl, as_long_as}
use Rattle.mir_text.specs.SectionsRead.{items_seen}
use Rattle.mir_text.proofs.Kept.{adts_keep_traits, adts_keep, traits_keep, impls_keep, no_traits, no_closures}
use Rattle.mir_text.proofs.items.read_items.Goals as goal

pub read_traits-requires-clause-none : goal.read_traits-requires-clause-none
read_traits-requires-clause-none c =
    let heads = c.args.heads.now in
    let old = c.args.items.now in
    let adts : items_seen heads c.read_adts.new.items ≡ (as_long_as (one_adt heads) (items_seen heads old) c.args.text.now).0 = search rules in
    no_traits heads old c.read_adts.new.items (ap (λ (s : ItemsSeen). s.traits) adts ∙ adts_keep_traits heads (items_seen heads old) c.args.text.now) c.requires.no_traits

pub read_closures-requires-clause-none : goal.read_closures-requires-clause-none
read_closures-requires-clause-none c =
    let heads = c.args.heads.now in
    let old = c.args.items.now in
    let a = c.read_adts.new.items in
    let t = c.read_traits.new.items in
    let m = c.read_impls.new.items in
    let adts : items_seen heads a ≡ (as_long_as (one_adt heads) (items_seen heads old) c.args.text.now).0 = search rules in
    let traits : items_seen heads t ≡ (as_long_as (one_trait heads) (items_seen heads a) c.in_ok-rest.rest.now).0 = search rules in
    let impls : items_seen heads m ≡ (as_long_as (one_impl heads) (items_seen heads t) c.in_ok-rest-2.rest.now).0 = search rules in
    no_closures heads old m
    (ap (λ (s : ItemsSeen). s.closures) impls ∙ impls_keep heads (items_seen heads t) c.in_ok-rest-2.rest.now
    ∙ ap (λ (s : ItemsSeen). s.closures) traits ∙ traits_keep heads (items_seen heads a) c.in_ok-rest.rest.now
    ∙ ap (λ (s : ItemsSeen). s.closures) adts ∙ adts_keep heads (items_seen heads old) c.args.text.now)
    c.requires.no_closures
