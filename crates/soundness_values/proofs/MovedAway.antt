-- What is moved out of a local is gone from it, and all else stays as it was; and what a local names that holds a
-- reference.
use Rattle.std.proofs.Common.{◌≡◌, ℕ, ◌==◌, ◌&&◌, not, Bool, true, false, List, [], ◌∷◌, length, Option, Some, if◌then◌else◌, refl, ap, sym, ◌∙◌, subst}
use Rattle.std.specs.List.{find}
use Rattle.std.proofs.lemmas.Bool.{false≢true}
use Rattle.std.proofs.lemmas.Bool.Decides.{Decides-eqb}
use Rattle.std.proofs.lemmas.Option.{none-some}
use Rattle.mir_ty.specs.declared.ty.TyId.{TyId}
use Rattle.mir_ty.specs.ItemTable.{ItemTable}
use Rattle.store_model.specs.declared.address.Addr.{Addr}
use Rattle.store_model.specs.declared.address.At.{At}
use Rattle.store_model.specs.Values.Datum.{Datum, Gone}
use Rattle.store_model.specs.Values.Access.{replaced}
use Rattle.store_model.specs.Effects as effects
use Rattle.store_model.specs.Effects.{EffectSite, Operand, BadUse, Out, Go, on_go}
use Rattle.store_model.specs.Abstract.Effects.{with_presence, watched_at, acted}
use Rattle.store_model.specs.Abstract.Presence.{Presence}
use Rattle.store_model.specs.Concrete.Location.{Setting, root_of, stored_at}
use Rattle.store_model.specs.Concrete.State.{State, Cells, cell, with_cell, with_cell_at}
use Rattle.soundness_values.proofs.Facts.{Naming, Facts, Each}
use Rattle.soundness_values.proofs.Frames.{at_head}
use Rattle.soundness_values.proofs.Known.{Target}
use Rattle.soundness_values.proofs.LocalPresence.{presence_other}
use Rattle.soundness_values.proofs.Standings.{cell_other}
use Rattle.soundness_values.proofs.Running.{Passed, Runs, Lies, in_local, behind, NamingHolds, own_named, behind_named}
use Rattle.soundness_values.proofs.Reaching.{stands}
use Rattle.soundness_values.proofs.Checks.{may_move}
use Rattle.soundness_values.proofs.Taking.{first, not_so}
use Rattle.soundness_values.proofs.Ways.{has_index}
use Rattle.soundness_values.proofs.Passing.{moves_one, NamesAt, own_names, behind_names, Moves}

module _ (setting : Setting) (number : ℕ) (targets : List Target) (uniques : List Addr) (base : State)
    (is_target : ℕ → Bool) (passed : Passed setting number targets uniques base is_target) where
  abbrev items : ItemTable
  items = setting.items

  abbrev local_ty : ℕ → Option TyId
  local_ty key = setting.local_ty number key

  abbrev R : State → List (ℕ × Presence) → Facts → Type 0
  R = Runs setting number targets uniques base is_target

  module _ (w : State) (cells : List (ℕ × Presence)) (facts : Facts) (runs : R w cells facts) where
    swapped : (a b : ℕ) → (a == b) ≡ false → (b == a) ≡ false
    swapped a b h = by (b == a) refl
      where
        by : (c : Bool) → (b == a) ≡ c → c ≡ false
        by false e = refl
        by true e = absurd (false≢true (sym h ∙ (Decides-eqb a b).1 (sym ((Decides-eqb b a).0 e))))

    pub own_moves : (local : ℕ) (path : List At) (change : Presence → Presence) →
        Moves setting number targets uniques base is_target passed (λ key. local == key) runs.known.held runs.known.older cells
        (stored_at (record { depth = length runs.known.older; key = (record { 0 = local }); path = path }) Gone w)
        (with_presence local change cells)
    own_moves local path change = record {
      now = with_cell local (replaced path Gone (root_of (record {
        depth = length runs.known.older;
        key = (record { 0 = local });
        path = path;
      }) w)) runs.known.held;
      is_there = ap (with_cell_at (length runs.known.older) local (replaced path Gone (root_of (record {
        depth = length runs.known.older;
        key = (record { 0 = local });
        path = path;
      }) w))) runs.known.is_there
          ∙ at_head (length runs.known.older) local (replaced path Gone (root_of (record {
            depth = length runs.known.older;
            key = (record { 0 = local });
            path = path;
          }) w)) (record { body = number; cells = runs.known.held }) runs.known.older
          ((Decides-eqb (length runs.known.older) (length runs.known.older)).1 refl);
      held_same = λ key h. cell_other local key _ runs.known.held (swapped local key h);
      present_same = λ key h. presence_other local key change cells (swapped local key h);
    }

    pub moved_away : (site : EffectSite) → may_move items local_ty is_target site.place ≡ true →
        (l : Lies setting number targets uniques base is_target passed w cells facts runs site.place) →
        Moves setting number targets uniques base is_target passed (moves_one (effects.Moved site)) runs.known.held runs.known.older cells
        (stored_at (stands setting number targets uniques base is_target passed w cells facts runs site.place
        l).standing.address Gone w)
        (with_presence site.place.local (acted true (watched_at items local_ty site)) cells)
    unfolding stands
    moved_away site moves (in_local id typed none own sure lead) =
        own_moves site.place.local lead.path (acted true (watched_at items local_ty site))
    moved_away site moves (behind n t at same steps is sure lead) =
        absurd (false≢true (sym (not_so (is_target site.place.local)
        (first (not (is_target site.place.local)) (not (has_index site.place.steps))
        (first (not (is_target site.place.local) && not (has_index site.place.steps)) _ moves)))
        ∙ subst (λ x. is_target x ≡ true) same (passed.is_param n t at)))

  pub found_naming : (holds : Naming → Type 0) (local : ℕ) (list : List Naming) (n : Naming) →
      find (λ (m : Naming). m.local == local) list ≡ Some n → Each holds list → (n.local ≡ local) × holds n
  found_naming holds local [] n e h = absurd (none-some n e)
  found_naming holds local (m ∷ list) n e h = by (m.local == local) refl e
      (λ k. found_naming holds local list n k h.1)
    where
      by : (b : Bool) → (m.local == local) ≡ b → (if b then Some m else find (λ (x : Naming). x.local == local) list)
          ≡ Some n → (find (λ (x : Naming). x.local == local) list ≡ Some n → (n.local ≡ local) × holds n) →
          (n.local ≡ local) × holds n
      by true k e later =
          let same : m ≡ n = cc in
          (ap (λ (x : Naming). x.local) (sym same) ∙ (Decides-eqb m.local local).0 k, subst holds same h.0)
      by false k e later = later e

  pub names_at : (depth : ℕ) (held : Cells) (n : Naming) (d : Datum) → cell n.local held ≡ d →
      NamingHolds setting number targets uniques base is_target depth held n → NamesAt setting number targets uniques base is_target passed depth held n.place d
  names_at depth held n d e (own_named o h) = own_names o (sym e ∙ h)
  names_at depth held n d e (behind_named m t at same steps is h) = behind_names m t at same steps is (sym e ∙ h)
