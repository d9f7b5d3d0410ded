-- Where nothing conflicts among the arguments of a call, those behind a borrow change only places apart from the one
-- that is borrowed, if the rule of borrows sees that place, and else only places with names at their roots; whatever is
-- to hold of such places.
use Rattle.std.proofs.Common.{◌≡◌, ℕ, Bool, true, false, List, [], ◌∷◌, ◌++◌, Option, Some, None, refl, ap, sym, ◌∙◌, subst}
use Rattle.mir_ty.specs.declared.ty.TyId.{TyId}
use Rattle.mir_ty.specs.ItemTable.{ItemTable}
use Rattle.store_model.specs.Places.Place.{Place}
use Rattle.typed_tree.specs.Nodes.{nodes_among}
use Rattle.typed_tree.specs.Tree.{Node, Form, Nodes}
use Rattle.src_meaning.specs.Shape as shapes
use Rattle.typing_rules.specs.Accesses as rules
use Rattle.typing_rules.specs.Accesses.{AccessPlace, Accessed, Argument, Referring, changes, is_against, overlap, all_told, arguments, conflicts_among}
use Rattle.well_typed.specs.Claim.{Holds}
use Rattle.well_typed.specs.Nodes as typing
use Rattle.soundness_values.proofs.NoOverlap.{Seen}
use Rattle.soundness_frame.proofs.PassWithin.{Outer}
use Rattle.soundness_frame.proofs.PassConflicts.{EachAccess, EachArgument, Apart, first_apart, change_apart}
use Rattle.soundness_cells.proofs.PassFacts.{Standpoint, context}
use Rattle.soundness_frame.proofs.PassFrameBodies.{any_place}
use Rattle.soundness_frame.proofs.PassTold.{ids, KnownOf, Here, IfRoot, Told}
use Rattle.soundness_frame.proofs.PassToldForms as told_forms
use Rattle.soundness_frame.proofs.PassToldPlaces.{AllOwned, MaySeen, AllPermit, permit_left, permit_right}
use Rattle.soundness_frame.proofs.PassWithin as within

module _ (items : ItemTable) (May : Place → Type 0) (Of : KnownOf) where
  -- of nodes nothing is asked; what is known of names is the same
  abbrev anything : KnownOf
  anything = record { node = λ n. Unit {0}; root = Of.root; typed = Of.typed }

  abbrev pub nothing_said : shapes.Aliases → Outer → ℕ → Form → Type 0
  nothing_said places loops id form = Unit {0}

  abbrev MayRoot : Place → Type 0
  MayRoot = IfRoot items May anything

  abbrev AnyRoot : Place → Type 0
  AnyRoot = IfRoot items any_place Of

  -- what stands around some nodes, if all their cells may be changed
  here_owned : (aliases : rules.Aliases) (places : shapes.Aliases) (x : Standpoint) (ns : List Node) →
      Here items any_place Of aliases places x ns → AllOwned items May ns → Here items May anything aliases places x ns
  here_owned aliases places x ns h owned = record {
    sees = record {
      seen = h.sees.seen;
      guarded = h.sees.guarded;
      closure = h.sees.closure;
      plain = h.sees.plain;
    };
    past = h.past;
    outer = h.outer;
    rises = h.rises;
    owned = owned;
    all = λ n i. tt;
    low = h.low;
    names = h.names;
    others = h.others;
    stand = h.stand;
    self = h.self;
    types = h.types;
    self_type = h.self_type;
    name_types = h.name_types;
    under = h.under;
    away = λ d i. record { names = (h.away d i).names; self = (h.away d i).self };
  }

  -- arguments change only what may be changed, if all that is told of them allows it
  args_so : (rest : Nodes) (tys : List TyId) (aliases : rules.Aliases) (places : shapes.Aliases) (x : Standpoint) →
      Here items any_place Of aliases places x (nodes_among rest) → AllOwned items May (nodes_among rest) →
      Holds (typing.arguments (context items x) tys rest) →
      Told items May anything aliases (all_told (arguments aliases rest)) →
      within.AllWithin items May nothing_said places (ids x) rest
  args_so rest tys aliases places x here owned typed t =
      told_forms.args_within items May anything nothing_said (λ form id at ty by seen places y o h r k. tt) rest tys
      aliases places x (here_owned aliases places x (nodes_among rest) here owned) typed t

  -- ---- where the rule does not see the place that is borrowed

  permit_rooted : ((q : Place) → Of.root q.local → May q) → (aliases : rules.Aliases) (as_ : List Accessed) →
      AllPermit items AnyRoot aliases as_ → AllPermit items MayRoot aliases as_
  permit_rooted rooted aliases [] k = tt
  permit_rooted rooted aliases (x ∷ as_) k = (
    record { changed = λ c. may_change x.place; replaced = k.0.replaced },
    permit_rooted rooted aliases as_ k.1,
  )
    where
      may_change : (o : Option AccessPlace) → MaySeen items MayRoot o
      may_change None = tt
      may_change (Some b) = λ q s r. rooted q r

  pub later_rooted : ((q : Place) → Of.root q.local → May q) → (rest : Nodes) (tys : List TyId)
      (aliases : rules.Aliases) (places : shapes.Aliases) (x : Standpoint) →
      Here items any_place Of aliases places x (nodes_among rest) → AllOwned items May (nodes_among rest) →
      Holds (typing.arguments (context items x) tys rest) →
      Told items any_place Of aliases (all_told (arguments aliases rest)) →
      within.AllWithin items May nothing_said places (ids x) rest
  later_rooted rooted rest tys aliases places x here owned typed t =
      args_so rest tys aliases places x here owned typed
      (permit_rooted rooted aliases (all_told (arguments aliases rest)).accesses t.0, t.1)

  -- ---- where it sees it

  module _ (from : AccessPlace) (apart : (b : AccessPlace) (q : Place) → Seen b q → overlap from b ≡ false → May q)
    where
      -- what does not go against the borrow changes only places apart
      may_change : (allows_none : Bool) (place : Option AccessPlace) → place ≡ Some from → (x : Accessed) →
          is_against allows_none place x ≡ false → changes x.access ≡ true → MaySeen items MayRoot x.place
      may_change allows_none place p x e c = by x.place refl
        where
          by : (o : Option AccessPlace) → x.place ≡ o → MaySeen items MayRoot o
          by None k = tt
          by (Some b) k = λ q s r. apart b q s (change_apart allows_none place x from b e p k c)

      permit_each : (allows_none : Bool) (place : Option AccessPlace) → place ≡ Some from → (aliases : rules.Aliases)
          (as_ : List Accessed) → EachAccess (λ a. is_against allows_none place a ≡ false) as_ →
          AllPermit items AnyRoot aliases as_ → AllPermit items MayRoot aliases as_
      permit_each allows_none place p aliases [] e k = tt
      permit_each allows_none place p aliases (x ∷ as_) e k = (
        record { changed = λ c. may_change allows_none place p x e.0 c; replaced = k.0.replaced },
        permit_each allows_none place p aliases as_ e.1 k.1,
      )

      permit_both : (aliases : rules.Aliases) (a b : List Accessed) → AllPermit items MayRoot aliases a →
          AllPermit items MayRoot aliases b → AllPermit items MayRoot aliases (a ++ b)
      permit_both aliases [] b p q = q
      permit_both aliases (x ∷ a) b p q = (p.0, permit_both aliases a b p.1 q)

      permit_args : (is_receiver : Bool) (r : Referring) → r.place ≡ Some from → (aliases : rules.Aliases)
          (args : List Argument) → EachArgument (Apart is_receiver r) args →
          AllPermit items AnyRoot aliases (all_told args).accesses →
          AllPermit items MayRoot aliases (all_told args).accesses
      permit_args is_receiver r p aliases [] e k = tt
      permit_args is_receiver r p aliases (a ∷ args) e k =
          permit_both aliases a.told.accesses (all_told args).accesses
          (permit_each _ r.place p aliases a.told.accesses e.0.accesses
          (permit_left items AnyRoot aliases a.told.accesses (all_told args).accesses k))
          (permit_args is_receiver r p aliases args e.1
          (permit_right items AnyRoot aliases a.told.accesses (all_told args).accesses k))

      -- the arguments behind a borrow
      pub later_within : (a : Argument) (rest : Nodes) (tys : List TyId) (aliases : rules.Aliases)
          (places : shapes.Aliases) (x : Standpoint) (r : Referring) → a.refers ≡ Some r → r.place ≡ Some from →
          conflicts_among (a ∷ arguments aliases rest) ≡ [] →
          Here items any_place Of aliases places x (nodes_among rest) → AllOwned items May (nodes_among rest) →
          Holds (typing.arguments (context items x) tys rest) →
          Told items any_place Of aliases (all_told (arguments aliases rest)) →
          within.AllWithin items May nothing_said places (ids x) rest
      later_within a rest tys aliases places x r refers p none here owned typed t =
          args_so rest tys aliases places x here owned typed (
            permit_args a.is_receiver r p aliases (arguments aliases rest)
                (first_apart a (arguments aliases rest) r none refers) t.0,
            t.1,
          )
