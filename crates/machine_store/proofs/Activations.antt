-- The activations of a store, which holds the oldest first, as the list of the youngest first.
use Rattle.std.proofs.Common.{◌≡◌, ℕ, zero, suc, ◌==◌, ◌+◌, ◌<◌, ◌≤◌, Bool, true, false, List, [], ◌∷◌, ◌++◌, length, map, Option, Some, None, slice_get, slice_set, MatchOption, refl, ap, sym, subst, ◌∙◌, arith}
use Rattle.std.specs.Option.{option_map, option_map_or}
use Rattle.std.proofs.lemmas.Bool.Decides.{Decides-eqb}
use Rattle.cfg_meaning.specs.Programs.{arguments_from}
use Rattle.machine_store.specs.Activations.{on_top_of, root_in}
use Rattle.machine_store.specs.declared.frame.StoredLocal.{StoredLocal}
use Rattle.machine_store.specs.Frames.{activation_of, cells_of}
use Rattle.store_model.specs.Concrete.State.{Activation, Cells, cell, with_cell, at_depth, with_cell_at}
use Rattle.store_model.specs.declared.value.Value.{Value}
use Rattle.store_model.specs.Values.Datum.{Datum, Gone, datum_of}

abbrev pub Frames : Type 0
Frames = List (ℕ × List StoredLocal)

same_number : (n : ℕ) → (n == n) ≡ true
same_number n = (Decides-eqb n n).1 refl

other_number : (n m : ℕ) → n < m → (n == m) ≡ false
other_number n m h = go (n == m) refl
  where
    go : (b : Bool) → (n == m) ≡ b → (n == m) ≡ false
    go true e = absurd (let k : n ≡ m = (Decides-eqb n m).0 e in omega arith)
    go false e = e

number_above : (n m : ℕ) → m < n → (n == m) ≡ false
number_above n m h = go (n == m) refl
  where
    go : (b : Bool) → (n == m) ≡ b → (n == m) ≡ false
    go true e = absurd (let k : n ≡ m = (Decides-eqb n m).0 e in omega arith)
    go false e = e

pub depth_of : (frames : Frames) (older : List Activation) → length (on_top_of frames older) ≡ length frames + length older
depth_of [] older = omega arith
depth_of (frame ∷ frames) older = let h = depth_of frames (activation_of frame ∷ older) in omega arith

-- what is younger is at another depth
older_kept : (frames : Frames) (older : List Activation) (depth : ℕ) → depth < length older → at_depth depth (on_top_of frames older) ≡ at_depth depth older
older_kept [] older depth h = refl
older_kept (frame ∷ frames) older depth h =
    older_kept frames (activation_of frame ∷ older) depth (omega arith) ∙ rw (other_number depth (length older) h) refl

-- the activation of a depth is the frame of that number
pub frame_at : (frames : Frames) (older : List Activation) (n : ℕ) (frame : ℕ × List StoredLocal) → slice_get frames n ≡ Some frame →
    at_depth (length older + n) (on_top_of frames older) ≡ Some (activation_of frame)
frame_at [] older n frame h = absurd (cc)
frame_at (first ∷ frames) older zero frame h =
    let same : first ≡ frame = cc in
    rw (let e : length older + 0 ≡ length older = omega arith in e)
    (older_kept frames (activation_of first ∷ older) (length older) (omega arith) ∙ rw (same_number (length older)) (ap (λ f. Some (activation_of f)) same))
frame_at (first ∷ frames) older (suc n) frame h =
    rw (let e : length older + suc n ≡ suc (length older) + n = omega arith in e) (frame_at frames (activation_of first ∷ older) n frame h)

too_deep_by : (a : Activation) (older : List Activation) (depth : ℕ) → (depth == length older) ≡ false → at_depth depth older ≡ None → at_depth depth (a ∷ older) ≡ None
too_deep_by a older depth e h = rw e h

pub too_deep : (activations : List Activation) (depth : ℕ) → length activations ≤ depth → at_depth depth activations ≡ None
too_deep [] depth h = refl
too_deep (a ∷ older) depth h = too_deep_by a older depth (number_above depth (length older) (omega arith)) (too_deep older depth (omega arith))

-- What a local holds is changed at one depth alone.

older_changed : (frames : Frames) (older : List Activation) (depth key : ℕ) (value : Datum) → depth < length older →
    with_cell_at depth key value (on_top_of frames older) ≡ on_top_of frames (with_cell_at depth key value older)
older_changed [] older depth key value h = refl
older_changed (frame ∷ frames) older depth key value h =
    older_changed frames (activation_of frame ∷ older) depth key value (omega arith) ∙ ap (on_top_of frames) (rw (other_number depth (length older) h) refl)

abbrev with_local : ℕ → Datum → Activation → Activation
with_local key value a = record a { cells = with_cell key value a.cells }

pub frame_changed : (frames : Frames) (older : List Activation) (n : ℕ) (frame changed : ℕ × List StoredLocal) (key : ℕ) (value : Datum) → slice_get frames n ≡ Some frame →
    activation_of changed ≡ with_local key value (activation_of frame) →
    on_top_of (slice_set frames n changed) older ≡ with_cell_at (length older + n) key value (on_top_of frames older)
frame_changed [] older n frame changed key value h e = absurd (cc)
frame_changed (first ∷ frames) older zero frame changed key value h e =
    let same : first ≡ frame = cc in
    rw (let i : length older + 0 ≡ length older = omega arith in i)
    (sym (older_changed frames (activation_of first ∷ older) (length older) key value (omega arith)
    ∙ ap (on_top_of frames) (rw (same_number (length older)) (ap (λ a. a ∷ older) (ap (λ f. with_local key value (activation_of f)) same ∙ sym e)))))
frame_changed (first ∷ frames) older (suc n) frame changed key value h e =
    rw (let i : length older + suc n ≡ suc (length older) + n = omega arith in i) (frame_changed frames (activation_of first ∷ older) n frame changed key value h e)

pub too_deep_changed : (activations : List Activation) (depth key : ℕ) (value : Datum) → length activations ≤ depth → with_cell_at depth key value activations ≡ activations
too_deep_changed [] depth key value h = refl
too_deep_changed (a ∷ older) depth key value h =
    let rest = too_deep_changed older depth key value (omega arith) in
    rw (number_above depth (length older) (omega arith)) (ap (λ rest. a ∷ rest) rest)

pub on_top_pushed : (frames : Frames) (frame : ℕ × List StoredLocal) (older : List Activation) → on_top_of (frames ++ frame ∷ []) older ≡ activation_of frame ∷ on_top_of frames older
on_top_pushed [] frame older = refl
on_top_pushed (first ∷ frames) frame older = on_top_pushed frames frame (activation_of first ∷ older)

-- one more argument
pub argument_added : (key : ℕ) (args : List Datum) (arg : Datum) → with_cell (key + length args) arg (arguments_from key args) ≡ arguments_from key (args ++ arg ∷ [])
argument_added key [] arg = rw (let i : key + 0 ≡ key = omega arith in i) refl
argument_added key (first ∷ args) arg =
    rw (number_above (key + suc (length args)) key (omega arith))
    (ap (λ cells. (key, first) ∷ cells) (ap (λ n. with_cell n arg (arguments_from (suc key) args)) (let i : key + suc (length args) ≡ suc key + length args = omega arith in i) ∙ argument_added (suc key) args arg))

module _ (frames : Frames) (depth key : ℕ) (frame : ℕ × List StoredLocal) (is : slice_get frames depth ≡ Some frame) where
  at_this_depth : at_depth depth (on_top_of frames []) ≡ Some (activation_of frame)
  at_this_depth = subst (λ n. at_depth n (on_top_of frames []) ≡ Some (activation_of frame)) (let i : 0 + depth ≡ depth = omega arith in i) (frame_at frames [] depth frame is)

  pub root_is : root_in depth key (on_top_of frames []) ≡ cell key (cells_of frame.1)
  root_is = ap (λ o. option_map_or (λ a. cell key a.cells) o Gone) at_this_depth

  -- what a local of the activation of a depth holds is changed in its frame
  pub changed_in : (stored : Datum → Datum) (changed : ℕ × List StoredLocal) → changed.0 ≡ frame.0 →
      cells_of changed.1 ≡ with_cell key (stored (cell key (cells_of frame.1))) (cells_of frame.1) →
      on_top_of (slice_set frames depth changed) [] ≡ with_cell_at depth key (stored (root_in depth key (on_top_of frames []))) (on_top_of frames [])
  changed_in stored changed body cells =
      subst (λ n. on_top_of (slice_set frames depth changed) [] ≡ with_cell_at n key (stored (root_in depth key (on_top_of frames []))) (on_top_of frames []))
      (let i : 0 + depth ≡ depth = omega arith in i)
      (frame_changed frames [] depth frame changed key (stored (root_in depth key (on_top_of frames []))) is
      (ap (λ n. record { body = n; cells = cells_of changed.1 }) body
      ∙ ap (λ c. record { body = frame.0; cells = c }) (cells ∙ ap (λ d. with_cell key (stored d) (cells_of frame.1)) (sym root_is))))

pub left_as_was : (frames : Frames) (depth key : ℕ) (value : Datum) → length frames ≤ depth → on_top_of frames [] ≡ with_cell_at depth key value (on_top_of frames [])
left_as_was frames depth key value h = let d = depth_of frames [] in sym (too_deep_changed (on_top_of frames []) depth key value (omega arith))

pub popped : (answer : Option (ℕ × List StoredLocal)) (frames rest : Frames) → MatchOption answer ((frames ≡ []) × (rest ≡ [])) (λ last. frames ≡ rest ++ last ∷ []) →
    MatchOption answer ((on_top_of frames [] ≡ []) × (on_top_of rest [] ≡ [])) (λ frame. on_top_of frames [] ≡ activation_of frame ∷ on_top_of rest [])
popped None frames rest h = (ap (λ f. on_top_of f []) h.0, ap (λ f. on_top_of f []) h.1)
popped (Some frame) frames rest h = ap (λ f. on_top_of f []) h ∙ on_top_pushed rest frame []

pub more_arguments : (yielded : List Datum) (arg : Datum) (cells : Cells) (n : ℕ) → cells ≡ arguments_from 1 yielded → n ≡ length yielded + 1 → with_cell n arg cells ≡ arguments_from 1 (yielded ++ arg ∷ [])
more_arguments yielded arg cells n e i =
    ap (λ c. with_cell n arg c) e ∙ ap (λ k. with_cell k arg (arguments_from 1 yielded)) (let d : n ≡ 1 + length yielded = omega arith in d) ∙ argument_added 1 yielded arg

same_items : {A : Type 0} (list : List A) → map (λ x. x) list ≡ list
same_items [] = refl
same_items (x ∷ list) = ap (λ rest. x ∷ rest) (same_items list)

pub entered : (frame : ℕ × List StoredLocal) (body : ℕ) (yielded args : List Value) → frame.0 ≡ body → cells_of frame.1 ≡ arguments_from 1 (map datum_of yielded) → map (λ x. x) yielded ≡ args →
    activation_of frame ≡ record { body = body; cells = arguments_from 1 (map datum_of args) }
entered frame body yielded args b cells all =
    ap (λ n. record { body = n; cells = cells_of frame.1 }) b
    ∙ ap (λ c. record { body = body; cells = c }) (cells ∙ ap (λ l. arguments_from 1 (map datum_of l)) (sym (same_items yielded) ∙ all))

past_end : {A : Type 0} (list : List A) (n : ℕ) → slice_get list n ≡ None → length list ≤ n
past_end [] n e = omega arith
past_end (x ∷ list) zero e = absurd (cc)
past_end (x ∷ list) (suc n) e = let h = past_end list n e in omega arith

-- the activation of a depth, by its frame
pub depth_lookup : (frames : Frames) (depth : ℕ) → at_depth depth (on_top_of frames []) ≡ option_map activation_of (slice_get frames depth)
depth_lookup frames depth = go (slice_get frames depth) refl
  where
    go : (o : Option (ℕ × List StoredLocal)) → slice_get frames depth ≡ o → at_depth depth (on_top_of frames []) ≡ option_map activation_of o
    go (Some frame) e = at_this_depth frames depth 0 frame e
    go None e = let d = depth_of frames [] in let h = past_end frames depth e in too_deep (on_top_of frames []) depth (omega arith)

-- the youngest activation is the last frame
youngest : (first : ℕ × List StoredLocal) (frames : Frames) (older : List Activation) (depth : ℕ) (frame : ℕ × List StoredLocal) → slice_get (first ∷ frames) depth ≡ Some frame → depth ≡ length frames →
    (rest : List Activation) × (on_top_of (first ∷ frames) older ≡ activation_of frame ∷ rest) × (length rest ≡ depth + length older)
youngest first [] older zero frame e h = (older, ap (λ f. activation_of f ∷ older) (let same : first ≡ frame = cc in same), omega arith)
youngest first [] older (suc depth) frame e h = absurd (let never : ⊥ = omega arith in never)
youngest first (second ∷ frames) older zero frame e h = absurd (let never : ⊥ = omega arith in never)
youngest first (second ∷ frames) older (suc depth) frame e h =
    let found = youngest second frames (activation_of first ∷ older) depth frame e (omega arith) in
    (found.0, found.1, (let n = found.2 in omega arith))

pub youngest_frame : (frames : Frames) (depth : ℕ) (frame : ℕ × List StoredLocal) → slice_get frames depth ≡ Some frame → suc depth ≡ length frames →
    (rest : List Activation) × (on_top_of frames [] ≡ activation_of frame ∷ rest) × (length rest ≡ depth)
youngest_frame [] depth frame e h = absurd (let never : ⊥ = omega arith in never)
youngest_frame (first ∷ frames) depth frame e h =
    let found = youngest first frames [] depth frame e (omega arith) in
    (found.0, found.1, (let n = found.2 in omega arith))

pub is_frame : (frames : Frames) (depth n : ℕ) → n ≡ length (on_top_of frames []) → n ≡ suc depth → slice_get frames depth ≡ None → ⊥
is_frame frames depth n e h none = let d = depth_of frames [] in let p = past_end frames depth none in omega arith

pub frame_count : (frames : Frames) (n : ℕ) → n ≡ length (on_top_of frames []) → n ≡ length frames
frame_count frames n e = let d = depth_of frames [] in omega arith

pub too_deep_root : (frames : Frames) (depth key : ℕ) → length frames ≤ depth → root_in depth key (on_top_of frames []) ≡ Gone
too_deep_root frames depth key h =
    let d = depth_of frames [] in
    ap (λ o. option_map_or (λ (a : Activation). cell key a.cells) o Gone) (too_deep (on_top_of frames []) depth (omega arith))
