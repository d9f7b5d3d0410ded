-- How the text of a run flows, step by step.
use Rattle.std.proofs.Common.{◌≡◌, ℕ, suc, map, ◌+◌, ◌-◌, ◌≤◌, ◌<◌, inl, inr, List, [], ◌∷◌, ◌++◌, length, take, drop, Option, Some, string_bytes, refl, ap, sym, subst, ◌∙◌, arith, append_assoc, append-nil}
use Rattle.std.proofs.lemmas.List.{take-append-le, drop-append-le, take-append-drop, drop_all, length-append, length-drop}
use Rattle.std.proofs.Math.ListN.{get_or}
use Rattle.std.proofs.Math.Seq.{take-add, take-length, drop-length, drop-cons}
use Rattle.mir_base.specs.Lines.{event_line, event_lines}
use Rattle.mir_edge.specs.Faults.{HasRisen}
use Rattle.machine_steps.specs.declared.told.ToldEvents.{ToldEvents}
use Rattle.machine_steps.specs.Worlds.{event_of}
use Rattle.mir_ty.specs.ItemTable.{ItemTable}
use Rattle.mir_ty.specs.Named.{adt_name, body_name}
use Rattle.mir_edge.specs.Told.{WhereTold}
use Rattle.mir_machine.specs.declared.trace_flow.TextFlow.{TextFlow}
use Rattle.mir_machine.specs.declared.error.RunError.{RunError}
use Rattle.mir_machine.specs.Flows.{Flows, CutOff, FlowsOn, StopsIn}
use Rattle.mir_machine.specs.Errors.{TookPart}

told_twice : (start old new : Option (List ℕ)) (first second : List ℕ) → WhereTold start (λ t. old ≡ Some (t ++ first)) → WhereTold old (λ t. new ≡ Some (t ++ second)) →
    WhereTold start (λ t. new ≡ Some (t ++ (first ++ second)))
told_twice start old new first second e d taken told = d (taken ++ first) (e taken told) ∙ ap Some (append_assoc taken first second)

waits : (text : List ℕ) (flow : TextFlow) → flow.sent ≤ length text → drop flow.sent text ≡ string_bytes flow.piece → length (string_bytes flow.piece) ≡ length text - flow.sent
waits text flow l e = ap length (sym e) ∙ length-drop flow.sent text

-- what waited was sent
pub sent_all : (old new : Option (List ℕ)) (before after : TextFlow) → after.sent ≡ before.sent + length (string_bytes before.piece) → string_bytes after.piece ≡ [] →
    WhereTold old (λ t. new ≡ Some (t ++ string_bytes before.piece)) → FlowsOn old new before after []
sent_all old new before after s none told start text (l, e, k) =
    subst (λ text. Flows start new text after) (sym (append-nil text)) (
      (let k : after.sent ≡ length text = is in omega (arith, k)),
      ap (λ n. drop n text) is ∙ drop-length text ∙ sym none,
      λ taken at. told_twice start old new (take before.sent text) (string_bytes before.piece) k told taken at
          ∙ ap (λ l. Some (taken ++ l)) (ap (λ p. take before.sent text ++ p) (sym e) ∙ take-append-drop before.sent text ∙ sym (ap (λ n. take n text) is ∙ take-length text)),
    )
  where
    w : length (string_bytes before.piece) ≡ length text - before.sent
    w = waits text before l e

    is : after.sent ≡ length text
    is = let h : length (string_bytes before.piece) ≡ length text - before.sent = w in omega (arith, h, s, l)

-- a fault cut it off
pub sent_part : (old new : Option (List ℕ)) (before : TextFlow) (written : ℕ) → written ≤ length (string_bytes before.piece) →
    WhereTold old (λ t. new ≡ Some (t ++ take written (string_bytes before.piece))) → StopsIn old new before [] (RunError.WriteFault (before.sent + written))
sent_part old new before written within told start text (l, e, k) =
    subst (λ text. CutOff start new text (RunError.WriteFault (before.sent + written))) (sym (append-nil text)) (
      (let w : length (string_bytes before.piece) ≡ length text - before.sent = waits text before l e in omega arith),
      λ taken at. told_twice start old new (take before.sent text) (take written (string_bytes before.piece)) k told taken at
          ∙ ap (λ l. Some (taken ++ l)) (ap (λ p. take before.sent text ++ take written p) (sym e) ∙ sym (take-add before.sent written text)),
    )

-- so much more waits
pub kept_on : (old : Option (List ℕ)) (before after : TextFlow) (more : List ℕ) → after.sent ≡ before.sent → string_bytes after.piece ≡ string_bytes before.piece ++ more →
    FlowsOn old old before after more
kept_on old before after more s p start text (l, e, k) = (
  (let a : length (text ++ more) ≡ length text + length more = length-append text more in omega arith),
  ap (λ n. drop n (text ++ more)) s ∙ drop-append-le before.sent text more l ∙ ap (λ x. x ++ more) e ∙ sym p,
  λ taken at. k taken at ∙ ap (λ l. Some (taken ++ l)) (sym (ap (λ n. take n (text ++ more)) s ∙ take-append-le before.sent text more l)),
)

-- memory is wanted where nothing more was sent
pub memory_stops : (old : Option (List ℕ)) (before : TextFlow) (more : List ℕ) → StopsIn old old before more RunError.Memory
memory_stops old before more start text (l, e, k) = λ taken at. (
  before.sent,
  (let a : length (text ++ more) ≡ length text + length more = length-append text more in omega arith),
  k taken at ∙ ap (λ l. Some (taken ++ l)) (sym (take-append-le before.sent text more l)),
)

module _ (start now : Option (List ℕ)) (text rest : List ℕ) where
  abbrev longer : length (text ++ rest) ≡ length text + length rest
  longer = length-append text rest

  pub cut_earlier : (error : RunError) → CutOff start now text error → CutOff start now (text ++ rest) error
  cut_earlier (RunError.WriteFault written) (l, k) = (
    (let a : length (text ++ rest) ≡ length text + length rest = longer in omega arith),
    λ taken at. k taken at ∙ ap (λ l. Some (taken ++ l)) (sym (take-append-le written text rest l)),
  )
  cut_earlier RunError.Memory k = λ taken at.
      let (count, l, e) = k taken at in
      (count, (let a : length (text ++ rest) ≡ length text + length rest = longer in omega arith), e ∙ ap (λ l. Some (taken ++ l)) (sym (take-append-le count text rest l)))

  -- so it is part of the whole text
  pub part_of : (whole : List ℕ) → whole ≡ text ++ rest → (error : RunError) → CutOff start now text error → TookPart whole start now error
  part_of whole is (RunError.WriteFault written) (l, k) = λ taken at. k taken at ∙ ap (λ l. Some (taken ++ l)) (sym (ap (take written) is ∙ take-append-le written text rest l))
  part_of whole is RunError.Memory k = λ taken at.
      let (count, l, e) = k taken at in
      (count, e ∙ ap (λ l. Some (taken ++ l)) (sym (ap (take count) is ∙ take-append-le count text rest l)))

-- one after the other
module _ (old middle new : Option (List ℕ)) (before between : TextFlow) (more other : List ℕ) (first : FlowsOn old middle before between more) where
  pub flows_then : (after : TextFlow) → FlowsOn middle new between after other → FlowsOn old new before after (more ++ other)
  flows_then after second start text k = subst (λ text. Flows start new text after) (append_assoc text more other) (second start (text ++ more) (first start text k))

  pub stops_then : (error : RunError) → StopsIn middle new between other error → StopsIn old new before (more ++ other) error
  stops_then error second start text k = subst (λ text. CutOff start new text error) (append_assoc text more other) (second start (text ++ more) (first start text k))

pub stops_before : (old new : Option (List ℕ)) (before : TextFlow) (more other : List ℕ) (error : RunError) → StopsIn old new before more error → StopsIn old new before (more ++ other) error
stops_before old new before more other error stops start text k =
    subst (λ text. CutOff start new text error) (append_assoc text more other) (cut_earlier start new (text ++ more) other error (stops start text k))

-- all was sent
pub all_sent : (start now : Option (List ℕ)) (text : List ℕ) (flow : TextFlow) → Flows start now text flow → string_bytes flow.piece ≡ [] → WhereTold start (λ t. now ≡ Some (t ++ text))
all_sent start now text flow (l, e, k) none = λ taken at.
    k taken at ∙ ap (λ l. Some (taken ++ l)) (sym (append-nil (take flow.sent text)) ∙ ap (λ d. take flow.sent text ++ d) (sym (e ∙ none)) ∙ take-append-drop flow.sent text)

-- nothing was sent at first
pub flows_first : (start : Option (List ℕ)) (flow : TextFlow) → flow.sent ≡ 0 → string_bytes flow.piece ≡ [] → Flows start start [] flow
flows_first start flow s none = (
  omega arith,
  ap (λ n. drop n []) s ∙ sym none,
  λ taken at. at ∙ ap Some (sym (append-nil taken) ∙ ap (λ n. taken ++ take n []) (sym s)),
)

-- a fault that rose later
pub risen_later : (old middle new : ℕ) → old ≤ middle → HasRisen middle new → HasRisen old new
risen_later old middle new l (inl r) = inl (omega arith)
risen_later old middle new l (inr e) = inr e

-- nothing more of the text
pub flows_same : (old : Option (List ℕ)) (flow : TextFlow) → FlowsOn old old flow flow []
flows_same old flow start text k = subst (λ text. Flows start old text flow) (sym (append-nil text)) k

-- the same bytes, under another name
pub flows_as : (old new : Option (List ℕ)) (before after : TextFlow) (more other : List ℕ) → more ≡ other → FlowsOn old new before after more → FlowsOn old new before after other
flows_as old new before after more other e k = subst (FlowsOn old new before after) e k

pub stops_as : (old new : Option (List ℕ)) (before : TextFlow) (more other : List ℕ) (error : RunError) → more ≡ other → StopsIn old new before more error → StopsIn old new before other error
stops_as old new before more other error e k = subst (λ more. StopsIn old new before more error) e k

-- The lines of what was told, one after the other.
module _ (items : ItemTable) (all : List ToldEvents) where
  abbrev lines : List ToldEvents → List ℕ
  lines told = event_lines (body_name items) (adt_name items) (map event_of told)

  abbrev one_line : ToldEvents → List ℕ
  one_line told = event_line (body_name items) (adt_name items) (event_of told)

  -- the lines before a number flow
  abbrev pub FlowsTo : ℕ → Option (List ℕ) → Option (List ℕ) → TextFlow → TextFlow → Type 0
  FlowsTo i old now before flow = (done : List ℕ) × (lines all ≡ done ++ lines (drop i all)) × FlowsOn old now before flow done

  module _ (i : ℕ) (d : ToldEvents) (within : i < length all) (old middle new : Option (List ℕ)) (before between : TextFlow) where
    next_of : (done : List ℕ) → lines all ≡ done ++ lines (drop i all) → lines all ≡ (done ++ one_line (get_or all i d)) ++ lines (drop (suc i) all)
    next_of done e =
        e ∙ ap (λ l. done ++ lines l) (drop-cons all i d within) ∙ sym (append_assoc done (one_line (get_or all i d)) (lines (drop (suc i) all)))

    pub next_flows : (after : TextFlow) → FlowsTo i old middle before between → FlowsOn middle new between after (one_line (get_or all i d)) → FlowsTo (i + 1) old new before after
    next_flows after (done, e, f) g = (
      done ++ one_line (get_or all i d),
      next_of done e ∙ ap (λ n. (done ++ one_line (get_or all i d)) ++ lines (drop n all)) (let one : suc i ≡ i + 1 = omega arith in one),
      flows_then old middle new before between done (one_line (get_or all i d)) f after g,
    )

    pub next_stops : (error : RunError) → FlowsTo i old middle before between → StopsIn middle new between (one_line (get_or all i d)) error → StopsIn old new before (lines all) error
    next_stops error (done, e, f) stops =
        stops_as old new before _ (lines all) error (sym (next_of done e))
        (stops_before old new before (done ++ one_line (get_or all i d)) (lines (drop (suc i) all)) error
        (stops_then old middle new before between done (one_line (get_or all i d)) f error stops))

  pub all_flow : (i : ℕ) (old now : Option (List ℕ)) (before flow : TextFlow) → drop i all ≡ [] → FlowsTo i old now before flow → FlowsOn old now before flow (lines all)
  all_flow i old now before flow none (done, e, f) = flows_as old now before flow done (lines all) (sym (e ∙ ap (λ l. done ++ lines l) none ∙ append-nil done)) f
