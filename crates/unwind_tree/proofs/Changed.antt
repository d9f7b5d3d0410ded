-- Scopes of which one has changed: their room, and what contracts see of them.
use Rattle.std.proofs.Common.{◌≡◌, ◌∙◌, ◌+◌, ◌-◌, ◌<◌, ◌≤◌, ℕ, List, [], ◌∷◌, ◌++◌, sym, ap, subst, arith}
use Rattle.std.proofs.lemmas.Option.{slice_get_within, slice_get-map}
use Rattle.std.specs.Option.{option_map}
use Rattle.mir_base.specs.declared.place_in_text.Key.{Key}
use Rattle.unwind_tree.specs.Roomy.{Roomy}
use Rattle.unwind_tree.specs.Rooms.{seen, seen_all, going, room_of, IsRoomy, IsChangedAt, AsBefore, WithEntry, WithRoom, WithPending, Filled, IsTakenOut, IsTakenFrom}
use Rattle.unwind_tree.specs.Trees.{OpenScope, changed_at, with_entry, with_pending, pending_only, IsPendingIn, IsCompleted}
use Rattle.unwind_tree.specs.declared.scheduled.Scheduled.{Scheduled}
use Rattle.unwind_tree.specs.declared.scope.Pending.{Pending}
use Rattle.unwind_tree.specs.declared.scope.Scope.{Scope}
use Rattle.unwind_tree.proofs.Rooms.{set_kept, HasRoomFor, room_made, set_pending, set_taken, set_filled, room_at, seen-set, seen-kept}

seen_as : (entries : List Scheduled) (pending : List Pending) (x : Scope) → x.entries.items ≡ entries → x.pending.items ≡ pending →
    seen x ≡ (let o : OpenScope = record { entries = entries; pending = pending } in o)
seen_as entries pending x e p =
    ap (λ es. (let o : OpenScope = record { entries = es; pending = x.pending.items } in o)) e
    ∙ ap (λ ps. (let o : OpenScope = record { entries = entries; pending = ps } in o)) p

no_more : (x y : Scope) → y.pending.items ≡ x.pending.items → (d : ℕ) → going d y.pending.items ≤ going d x.pending.items
no_more x y same d =
    let equal : going d y.pending.items ≡ going d x.pending.items = ap (going d) same in
    omega arith

module _ (n : ℕ) (S T : List Scope) where
  pub before_roomy : IsChangedAt n AsBefore S T → IsRoomy S → IsRoomy T
  before_roomy ch roomy =
      let same : ch.left.entries.room ≡ ch.scope.entries.room = ap (λ (e : Roomy). e.room) ch.how.0 in
      subst IsRoomy (sym ch.is) (set_kept n S ch.scope ch.left ch.there (omega arith) (no_more ch.scope ch.left ch.how.1) roomy)

  pub before_seen : IsChangedAt n AsBefore S T → seen_all T ≡ seen_all S
  before_seen ch =
      ap seen_all ch.is
      ∙ seen-kept n S ch.scope ch.left ch.there (seen_as ch.scope.entries.items ch.scope.pending.items ch.left (ap (λ (e : Roomy). e.items) ch.how.0) ch.how.1)

  pub entry_roomy : (e : Scheduled) → IsChangedAt n (WithEntry e) S T → IsRoomy S → IsRoomy T
  entry_roomy e ch roomy =
      let same : ch.left.entries.room ≡ ch.scope.entries.room = ap (λ (e : Roomy). e.room) ch.how.0 in
      subst IsRoomy (sym ch.is) (set_kept n S ch.scope ch.left ch.there (omega arith) (no_more ch.scope ch.left ch.how.1) roomy)

  pub entry_seen : (e : Scheduled) → IsChangedAt n (WithEntry e) S T → seen_all T ≡ changed_at n (with_entry e) (seen_all S)
  entry_seen e ch =
      ap seen_all ch.is
      ∙ seen-set n S ch.scope ch.left (with_entry e) ch.there
      (seen_as (ch.scope.entries.items ++ e ∷ []) ch.scope.pending.items ch.left (ap (λ (e : Roomy). e.items) ch.how.0) ch.how.1)

  pub room_roomy : IsChangedAt n WithRoom S T → IsRoomy S → IsRoomy T
  room_roomy ch roomy =
      let more : ch.left.entries.room ≡ ch.scope.entries.room + 1 = ap (λ (e : Roomy). e.room) ch.how.0 in
      subst IsRoomy (sym ch.is) (set_kept n S ch.scope ch.left ch.there (omega arith) (no_more ch.scope ch.left ch.how.1) roomy)

  pub room_seen : IsChangedAt n WithRoom S T → seen_all T ≡ seen_all S
  room_seen ch =
      ap seen_all ch.is
      ∙ seen-kept n S ch.scope ch.left ch.there (seen_as ch.scope.entries.items ch.scope.pending.items ch.left (ap (λ (e : Roomy). e.items) ch.how.0) ch.how.1)

  pub pending_roomy : (p : Pending) → IsChangedAt n (WithPending p) S T → p.into ≤ n → IsRoomy S → HasRoomFor p S → IsRoomy T
  pending_roomy p ch inside roomy spare =
      subst IsRoomy (sym ch.is)
      (set_pending n p S ch.scope ch.left ch.there inside (ap (λ (e : Roomy). e.room) ch.how.0) ch.how.1 roomy spare)

  pub pending_seen : (p : Pending) → IsChangedAt n (WithPending p) S T → seen_all T ≡ changed_at n (with_pending p) (seen_all S)
  pending_seen p ch =
      ap seen_all ch.is
      ∙ seen-set n S ch.scope ch.left (with_pending p) ch.there
      (seen_as ch.scope.entries.items (ch.scope.pending.items ++ p ∷ []) ch.left (ap (λ (e : Roomy). e.items) ch.how.0) ch.how.1)

  pub filled_seen : (e : Scheduled) → IsChangedAt n (Filled e) S T → seen_all T ≡ changed_at n (with_entry e) (seen_all S)
  filled_seen e ch =
      ap seen_all ch.is
      ∙ seen-set n S ch.scope ch.left (with_entry e) ch.there
      (seen_as (ch.scope.entries.items ++ e ∷ []) ch.scope.pending.items ch.left (ap (λ (e : Roomy). e.items) ch.how.0) ch.how.1)

pub room_spare : (p : Pending) (S T : List Scope) → IsChangedAt p.into WithRoom S T → IsRoomy S → HasRoomFor p T
room_spare p S T ch roomy =
    subst (HasRoomFor p) (sym ch.is)
    (room_made p S ch.scope ch.left ch.there (slice_get_within S p.into ch.scope ch.there) (ap (λ (e : Roomy). e.room) ch.how.0) ch.how.1 roomy)

module _ (key : Key) (p : Pending) (S T : List Scope) (is : IsTakenFrom key p S T) where
  abbrev out : IsTakenOut key p is.taken.scope is.taken.left
  out = is.taken.how

  both : IsRoomy S → IsRoomy T × HasRoomFor p T
  both roomy =
      let now = set_taken is.number p out.before out.behind S is.taken.scope is.taken.left is.taken.there out.holds.0 out.was out.holds.1 roomy in
      (subst IsRoomy (sym is.taken.is) now.0, subst (HasRoomFor p) (sym is.taken.is) now.1)

  pub taken_out_roomy : IsRoomy S → IsRoomy T
  taken_out_roomy roomy = (both roomy).0

  pub taken_out_spare : IsRoomy S → HasRoomFor p T
  taken_out_spare roomy = (both roomy).1

  was_pending : IsPendingIn is.number p out.before out.behind (seen_all S)
  was_pending = record {
    scope = seen is.taken.scope;
    there = slice_get-map seen S is.number ∙ ap (option_map seen) is.taken.there;
    pending = out.was;
  }

  now_seen : seen_all T ≡ changed_at is.number (pending_only (out.before ++ out.behind)) (seen_all S)
  now_seen =
      ap seen_all is.taken.is
      ∙ seen-set is.number S is.taken.scope is.taken.left (pending_only (out.before ++ out.behind)) is.taken.there
      (seen_as is.taken.scope.entries.items (out.before ++ out.behind) is.taken.left (ap (λ (e : Roomy). e.items) out.holds.0) out.holds.1)

  -- and becomes an entry
  pub completed_seen : (U : List Scope) → IsChangedAt p.into (Filled p.scheduled) T U → IsCompleted key (seen_all S) (seen_all U)
  completed_seen U ch = record {
    number = is.number;
    destination = p;
    before = out.before;
    behind = out.behind;
    has_key = out.has_key;
    was_in = was_pending;
    is = filled_seen p.into T U p.scheduled ch ∙ ap (changed_at p.into (with_entry p.scheduled)) now_seen;
  }

pub filled_roomy : (p : Pending) (T U : List Scope) → IsChangedAt p.into (Filled p.scheduled) T U → 0 < room_of p.into T → IsRoomy T → HasRoomFor p T → IsRoomy U
filled_roomy p T U ch some roomy spare =
    let at = room_at p.into T ch.scope ch.there in
    let less : ch.left.entries.room ≡ ch.scope.entries.room - 1 = ap (λ (e : Roomy). e.room) ch.how.0 in
    subst IsRoomy (sym ch.is) (set_filled p T ch.scope ch.left ch.there (omega arith) ch.how.1 roomy spare)
