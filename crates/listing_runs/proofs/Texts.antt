-- The texts of two runs with one trace and one end are one: a well formed graph tells of its own bodies alone, and
-- these have the same names in two graphs that are equal as compared.
use Rattle.std.proofs.Common.{◌≡◌, ℕ, zero, suc, ◌<◌, Bool, true, ◌&&◌, List, [], ◌∷◌, ◌++◌, ℤ, length, codes, nat_lt, Option, Some, None, slice_get, refl, ap, sym, ltb-true, lt-ltb}
use Rattle.std.specs.Prelude.{option_map, option_and_then}
use Rattle.std.specs.List.{list_all}
use Rattle.std.specs.Option.{option_map_or}
use Rattle.std.proofs.lemmas.Bool.{and_parts}
use Rattle.std.proofs.lemmas.Option.{none-some, same_Some}
use Rattle.mir_base.specs.declared.trace.End.{End}
use Rattle.mir_base.specs.declared.trace.Event.{Event}
use Rattle.mir_base.specs.Lines as lines
use Rattle.mir_base.specs.Trace.{Trace}
use Rattle.mir_ty.specs.declared.adt.Adt.{Adt}
use Rattle.mir_ty.specs.declared.def.ImplDef.{ImplDef}
use Rattle.mir_ty.specs.declared.def.Sig.{Sig}
use Rattle.mir_ty.specs.ItemTable.{ItemTable}
use Rattle.mir_ty.specs.Named.{sig_name, name_of_adt, body_name, adt_name, text_of}
use Rattle.cfg_graph.specs.declared.graph.Body.{Body}
use Rattle.cfg_graph.specs.declared.graph.Graph.{Graph}
use Rattle.cfg_graph.specs.declared.terminator.Term.{Term}
use Rattle.cfg_graph.specs.WellFormed.ItemFaults.{field_types, exist, adt_tests, impl_tests, impl_exists}
use Rattle.cfg_graph.specs.WellFormed.LineFaults.{term_numbers_exist}
use Rattle.cfg_graph.proofs.NoFaults.{broken-holds}
use Rattle.cfg_meaning.specs.Programs.{no_node, setting_of, code_of}
use Rattle.cfg_meaning.specs.Walk.{walk}
use Rattle.store_model.specs.Concrete.Bodies.{main_of, run_of}
use Rattle.store_model.specs.Concrete.State.{State}
use Rattle.store_model.specs.Effects.{Effects, Stuck, Halts}
use Rattle.listing_write.specs.Compared.{AdtSeen, adt_seen, IsListed, seen}
use Rattle.listing_write.proofs.Reading.Basics.{Every}
use Rattle.listing_write.proofs.Reading.Listed.{found_at, adt_holds, impl_holds, term_exists}
use Rattle.listing_runs.proofs.Listed.{of_both, name_of, adts_both, names_same, main_within}
use Rattle.listing_runs.proofs.Told.{Told, Good, Fine, Within, BodiesExist}
use Rattle.listing_runs.proofs.ToldWalks.{FineEffects, TermCalls, walk_fine, run_told}

module _ (graph : Graph) (listed : IsListed graph) where
  abbrev items : ItemTable
  items = graph.items

  abbrev count : ℕ
  count = length graph.bodies

  one_exists : (bodies : List ℕ) → list_all (λ body. nat_lt body count) bodies ≡ true → (m : ℕ) →
      Within count (slice_get bodies m)
  one_exists [] h m = tt
  one_exists (body ∷ bodies) h zero = ltb-true body count (and_parts (nat_lt body count) _ h).0
  one_exists (body ∷ bodies) h (suc m) = one_exists bodies (and_parts (nat_lt body count) _ h).1 m

  impls_exist : (n m : ℕ) → Within count (option_and_then (λ impl. slice_get impl.bodies m) (slice_get items.impls n))
  impls_exist n m = by (slice_get items.impls n) refl
    where
      by : (o : Option ImplDef) → slice_get items.impls n ≡ o →
          Within count (option_and_then (λ impl. slice_get impl.bodies m) o)
      by None e = tt
      by (Some def) e =
          let tested = broken-holds (impl_tests items count n def) (impl_holds graph listed n def e) 0
          (1, impl_exists items count def) refl in
          one_exists def.bodies
          (and_parts (nat_lt def.trait_no (length items.traits) && nat_lt def.adt (length items.adts)) _ tested).1 m

  drops_exist : (n : ℕ) → Within count (option_map_or (λ adt. adt.drop_body) (slice_get items.adts n) None)
  drops_exist n = by (slice_get items.adts n) refl
    where
      own : (o : Option ℕ) → option_map_or (λ body. nat_lt body count) o true ≡ true → Within count o
      own None h = tt
      own (Some body) h = ltb-true body count h

      by : (o : Option Adt) → slice_get items.adts n ≡ o → Within count (option_map_or (λ adt. adt.drop_body) o None)
      by None e = tt
      by (Some adt) e =
          let tested = broken-holds (adt_tests items count n adt) (adt_holds graph listed n adt e) 0
          (1, exist items count (field_types adt) && option_map_or (λ body. nat_lt body count) adt.drop_body true)
          refl in
          own adt.drop_body (and_parts (exist items count (field_types adt)) _ tested).1

  bodies_exist : BodiesExist count items
  bodies_exist = record { impls = impls_exist; drops = drops_exist }

  calls_exist : (term : Term) → term_numbers_exist items count term ≡ true → TermCalls count term
  calls_exist (Term.Call to body args next unwind) h = ltb-true body count h
  calls_exist _ h = tt

  within_told : (p : Effects State) → FineEffects count p → (turns n : ℕ) (w : State) → Good count w →
      Fine count ((code_of graph).within p turns n w)
  within_told p fine turns n w good = by (slice_get graph.bodies n) refl
    where
      by : (o : Option Body) → slice_get graph.bodies n ≡ o →
          Fine count (option_map_or (λ body. walk p n no_node body turns 0 w) o (Halts Stuck w))
      by None e = record { fine = good }
      by (Some body) e =
          walk_fine count p fine n no_node body
          (λ m block is. calls_exist block.term (term_exists graph listed n body e m block is)) turns 0 w good

  pub graph_told : (strict : Bool) → main_of items < count → (asked : List ℤ) (ticks : ℕ) →
      Every (Told count) (run_of (setting_of strict graph) (code_of graph) (main_of items) asked ticks).0
  graph_told strict within asked ticks =
      run_told count (setting_of strict graph) bodies_exist (code_of graph) within_told (main_of items) within asked
      ticks

-- the lines of events whose names are the same
told_alike : (bodies : ℕ) (body_of other_of adt_of type_of : ℕ → List ℕ) →
    ((n : ℕ) → n < bodies → body_of n ≡ other_of n) →
    ((n : ℕ) → adt_of n ≡ type_of n) → (event : Event) → Told bodies event →
    lines.event_line body_of adt_of event ≡ lines.event_line other_of type_of event
told_alike bodies body_of other_of adt_of type_of h k (Event.Call body) lt =
    ap (λ (name : List ℕ). lines.line (codes "call " ++ name)) (h body lt)
told_alike bodies body_of other_of adt_of type_of h k (Event.Return body) lt =
    ap (λ (name : List ℕ). lines.line (codes "return " ++ name)) (h body lt)
told_alike bodies body_of other_of adt_of type_of h k (Event.Unwind body) lt =
    ap (λ (name : List ℕ). lines.line (codes "unwind " ++ name)) (h body lt)
told_alike bodies body_of other_of adt_of type_of h k (Event.Make adt serial) lt =
    ap (λ (name : List ℕ). lines.line (codes "make " ++ lines.numbered name serial)) (k adt)
told_alike bodies body_of other_of adt_of type_of h k (Event.Dropped adt serial) lt =
    ap (λ (name : List ℕ). lines.line (codes "drop " ++ lines.numbered name serial)) (k adt)
told_alike bodies body_of other_of adt_of type_of h k (Event.ForgotMade adt serial) lt =
    ap (λ (name : List ℕ). lines.line (codes "forget " ++ lines.numbered name serial)) (k adt)
told_alike bodies body_of other_of adt_of type_of h k _ lt = refl

lines_alike : (bodies : ℕ) (body_of other_of adt_of type_of : ℕ → List ℕ) →
    ((n : ℕ) → n < bodies → body_of n ≡ other_of n) →
    ((n : ℕ) → adt_of n ≡ type_of n) → (trace : Trace) → Every (Told bodies) trace →
    lines.event_lines body_of adt_of trace ≡ lines.event_lines other_of type_of trace
lines_alike bodies body_of other_of adt_of type_of h k [] told = refl
lines_alike bodies body_of other_of adt_of type_of h k (event ∷ trace) told =
    λ i. told_alike bodies body_of other_of adt_of type_of h k event told.0 i
    ++ lines_alike bodies body_of other_of adt_of type_of h k trace told.1 i

module _ (left right : Graph) (l : IsListed left) (r : IsListed right) (same : seen left ≡ seen right) where
  body_names : (n : ℕ) → n < length left.bodies → body_name left.items n ≡ body_name right.items n
  body_names n lt =
      let (body, is) = found_at left.bodies n (lt-ltb n (length left.bodies) lt) in
      by (slice_get left.items.bodies n) (slice_get right.items.bodies n) (names_same left right l r same n body is)
    where
      by : (o p : Option Sig) → option_map name_of o ≡ option_map name_of p → sig_name o ≡ sig_name p
      by None None h = refl
      by (Some s) (Some t) h = same_Some s.name t.name h
      by None (Some t) h = absurd (none-some t.name h)
      by (Some s) None h = absurd (none-some s.name (sym h))

  adt_names : (n : ℕ) → adt_name left.items n ≡ adt_name right.items n
  adt_names n =
      of_both (adt_seen left.items) (adt_seen right.items) (λ o p. name_of_adt o ≡ name_of_adt p) refl
      (slice_get left.items.adts n) (slice_get right.items.adts n) (λ x y e f h. ap (λ (s : AdtSeen). s.name) h)
      (adts_both left right l r same n)

  -- what is written of a run of the one
  pub text_same : (strict : Bool) (asked : List ℤ) (ticks : ℕ) (end : End) →
      text_of left.items (run_of (setting_of strict left) (code_of left) (main_of left.items) asked ticks).0 end
      ≡ text_of right.items (run_of (setting_of strict left) (code_of left) (main_of left.items) asked ticks).0 end
  text_same strict asked ticks end =
      ap (λ (told : List ℕ). told ++ lines.end_line end)
      (lines_alike (length left.bodies) (body_name left.items) (body_name right.items) (adt_name left.items)
      (adt_name right.items) body_names adt_names
      (run_of (setting_of strict left) (code_of left) (main_of left.items) asked ticks).0
      (graph_told left l strict (main_within left right l r same) asked ticks))
