-- What the raw run drops at a place that is reached: whole, the same drop does the same; with nothing numbered in it,
-- it is not seen; and by a plan that fits, its ladder does it.
use Rattle.std.proofs.Common.{◌≡◌, ℕ, suc, ◌≤◌, ◌<◌, ◌||◌, not, List, [], length, Option, Some, ap, sym, ◌∙◌, subst, arith}
use Rattle.mir_ty.specs.declared.ty.TyId.{TyId}
use Rattle.mir_ty.specs.ItemTable.{ItemTable}
use Rattle.store_model.proofs.Values.Wholeness.{is_whole-iff_IsWhole}
use Rattle.store_model.specs.Concrete.Drops.{Begins, drop_at}
use Rattle.store_model.specs.Concrete.Effects.{dropped_if, nothing_if, drop}
use Rattle.store_model.specs.Concrete.Location.{Setting, Located, Reaches, reach, on_reached}
use Rattle.store_model.specs.Concrete.State.{State, Bodies}
use Rattle.store_model.specs.Effects.{EffectSite, Mode, Stuck, Out, Go, Unwind, Halts}
use Rattle.store_model.specs.Values.Datum.{Datum, Gone}
use Rattle.store_model.specs.Values.Wholeness.{is_whole, serials}
use Rattle.drop_values.specs.Like.{body_at, Flags, Like, Same, SameBodies, MayEnter, IsStuck, raw_setting, strict_setting, Extends}
use Rattle.drop_values.specs.Typed.{IsFull}
use Rattle.drop_values.proofs.Fits.{full-whole}
use Rattle.drop_values.specs.Plan.{Quiet}
use Rattle.drop_values.proofs.Frame.{Each, Frames, drop_at-After}
use Rattle.drop_values.proofs.Sound.{Sound}
use Rattle.drop_values.proofs.LikeLaws.{whole-Covers, serials-Covers, there, change-Like}
use Rattle.drop_values.proofs.Names.{ReachedThere}
use Rattle.drop_values.proofs.Quiet.{QuietOut, drop_at-quiet}
use Rattle.drop_values.proofs.Reach.{IndexOk, reach_there}
use Rattle.drop_values.proofs.Stand.{Changed, same-Changed, with_value, Stands}
use Rattle.drop_values.proofs.Whole.{drop_at-Same}

module _ (items : ItemTable) (local_ty local_ty' : (body local : ℕ) → Option TyId)
    (extends : Extends local_ty local_ty') (run run' : Bodies)
    (frames : Frames (raw_setting items local_ty) run) (most : ℕ) (good : ℕ → List Datum → State → Type 0)
    (may_enter : MayEnter items local_ty good) (tie : SameBodies local_ty good most run run')
    (flags : Flags) (number depth : ℕ) (bound : ℕ) (great : most < bound) where
  abbrev raw : Setting
  raw = raw_setting items local_ty

  abbrev strict : Setting
  strict = strict_setting items local_ty'

  abbrev L : State → State → Type 0
  L = Like local_ty flags

  -- the raw drop of a place that is reached drops what remains there
  pub raw-drop : (mode : Mode) (site : EffectSite) (s : Located) (w : State) → reach raw w site.place ≡ Reaches s →
      drop raw run bound mode site w ≡ drop_at raw run bound Begins s mode w
  raw-drop mode site s w e = ap (λ r. on_reached r (λ s. dropped_if raw run bound (not raw.strict || is_whole s.value)
      mode s w) (nothing_if raw run raw.strict w) (Halts Stuck w)) e

  -- a plain drop
  pub plain-same : (mode : Mode) (site : EffectSite) (s : Located) (w w' : State) → L w w' →
      length w.activations ≡ suc depth → body_at depth w ≡ Some number → w.ticks ≤ most →
      IndexOk (local_ty number) site.place.steps → reach raw w site.place ≡ Reaches s →
      IsFull items s.dynamic s.value →
      Same local_ty L (drop raw run bound mode site w) (drop strict run' bound mode site w')
  plain-same mode site s w w' like deep is few ok e h =
      subst (λ o. Same local_ty L o (drop strict run' bound mode site w')) (sym (raw-drop mode site s w e))
      (subst (Same local_ty L (drop_at raw run bound Begins s mode w)) (sym strictly)
      (drop_at-Same items local_ty local_ty' extends run run' frames most good may_enter tie flags
      bound Begins s s.value mode w w' r.1 h like few))
    where
      r : ReachedThere items local_ty local_ty' extends w' site.place s × Stands raw w s
      r = reach_there items local_ty local_ty' extends flags w w' like depth number site.place s deep is ok e

      strictly : drop strict run' bound mode site w' ≡ drop_at strict run' bound Begins s mode w'
      strictly =
          ap (λ r. on_reached r (λ s. dropped_if strict run' bound (not strict.strict || is_whole s.value) mode s w')
          (nothing_if strict run' strict.strict w') (Halts Stuck w'))
          (r.0.reaches ∙ ap Reaches (ap (with_value s)
          (whole-Covers s.value r.0.other (full-whole items s.value s.dynamic h) r.0.covers)))
          ∙ ap (λ b. dropped_if strict run' bound b mode s w')
          ((is_whole-iff_IsWhole s.value).1 (full-whole items s.value s.dynamic h))

  -- the raw drop, where nothing numbered stands there
  abbrev pub Silent : Out State → State → Type 0
  Silent (Go v) v' = L v v'
  Silent (Unwind v) v' = ⊥
  Silent (Halts halt v) v' = IsStuck halt

  pub dead-unseen : (mode : Mode) (s : Located) (w w' : State) → Stands raw w s → serials s.value ≡ [] →
      Quiet items s.value s.dynamic → Sound items s.value s.dynamic → w.ticks ≤ most → L w w' →
      Silent (drop_at raw run bound Begins s mode w) w'
  dead-unseen mode s w w' st none quiet sound few like =
      by (drop_at raw run bound Begins s mode w) (drop_at-quiet raw run bound s mode w st none quiet
      (omega (arith, few, great))) (drop_at-After raw run frames bound Begins s s.value mode w st sound)
    where
      by : (o : Out State) → QuietOut w o → Each (Changed s.address Gone w) o → Silent o w'
      by (Go v) told c =
          let t = there items local_ty local_ty' extends flags w w' s.address s like st in
          change-Like items local_ty local_ty' extends flags w w' v w' s.address s Gone t.other like st c
          (same-Changed strict w' (with_value s t.other) t.stands) (serials-Covers s.value t.other t.covers ∙ none)
          (record {
            asked = like.asked ∙ sym told.asked;
            ticks = like.ticks ∙ sym told.ticks;
            serial =
                like.serial ∙ sym told.serial;
            trace = like.trace ∙ sym told.trace;
          })
      by (Unwind v) never c = never
      by (Halts halt v) h c = h
