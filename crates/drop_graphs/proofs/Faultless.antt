-- A graph has no fault where another has none that has the same items and as many bodies, with as many parameters each, and
-- none of its bodies has a fault.
use Rattle.std.proofs.Common.{◌≡◌, inl, inr, ◌∙◌, ◌∷◌, [], ◌++◌, ◌+◌, ℕ, suc, ◌||◌, List, Some, length, slice_get, refl, ap, arith}
use Rattle.std.specs.Prelude.{zip}
use Rattle.std.specs.List.{list_any}
use Rattle.std.proofs.lemmas.Option.{slice_get_within, slice_get_cases}
use Rattle.mir_ty.specs.declared.def.Sig.{Sig}
use Rattle.mir_ty.specs.ItemTable.{ItemTable}
use Rattle.cfg_graph.specs.declared.graph.Body.{Body}
use Rattle.cfg_graph.specs.declared.graph.Graph.{Graph}
use Rattle.cfg_graph.specs.declared.graph.GraphFault.{GraphFault}
use Rattle.cfg_graph.specs.WellFormed.Faults.{nowhere, at_line, of_each, item_faults, faults_of_body, is_main, main_faults, end_faults, IsWellFormed}
use Rattle.cfg_graph.specs.WellFormed.ItemFaults.{adt_faults, trait_faults, impl_faults, closure_faults}
use Rattle.cfg_graph.proofs.NoFaults.{first_empty, second_empty, of_each-empty}
use Rattle.drop_bodies.proofs.BodyFaults.{empty-each, empty-both}

-- the faults of items, by how many bodies there are
abbrev faults_of_items : ItemTable → (bodies : ℕ) → List GraphFault
faults_of_items items bodies =
    of_each (λ n item. at_line nowhere nowhere (0 + n) (adt_faults items bodies n item)) 0 items.adts
    ++ (of_each (λ n item. at_line nowhere nowhere (length items.adts + n) (trait_faults items bodies n item)) 0 items.traits
    ++ (of_each (λ n item. at_line nowhere nowhere (length items.adts + length items.traits + n) (impl_faults items bodies n item)) 0
    items.impls
    ++ of_each (λ n item. at_line nowhere nowhere (length items.adts + length items.traits + length items.impls + n)
    (closure_faults items bodies n item)) 0 items.closures))

module _ (raw graph : Graph) (well : IsWellFormed raw) (items : graph.items ≡ raw.items)
    (count : length graph.bodies ≡ length raw.bodies)
    (params : (n : ℕ) (body after : Body) → slice_get raw.bodies n ≡ Some body → slice_get graph.bodies n ≡ Some after →
    after.params ≡ body.params)
    (bodies : (n : ℕ) (body after : Body) → slice_get raw.bodies n ≡ Some body → slice_get graph.bodies n ≡ Some after →
    faults_of_body raw (0 + n) body ≡ [] → faults_of_body graph (0 + n) after ≡ []) where
  rest : List GraphFault
  rest = of_each (faults_of_body raw) 0 raw.bodies ++ end_faults raw

  items-none : item_faults graph ≡ []
  items-none =
      ap (λ (i : ItemTable). faults_of_items i (length graph.bodies)) items
      ∙ ap (λ (k : ℕ). faults_of_items raw.items k) count
      ∙ first_empty (item_faults raw) (of_each (faults_of_body raw) 0 raw.bodies ++ end_faults raw) well

  rest-none : of_each (faults_of_body raw) 0 raw.bodies ++ end_faults raw ≡ []
  rest-none = second_empty (item_faults raw) (of_each (faults_of_body raw) 0 raw.bodies ++ end_faults raw) well

  raw-none : (n : ℕ) (body : Body) → slice_get raw.bodies n ≡ Some body → faults_of_body raw (0 + n) body ≡ []
  raw-none n body at =
      of_each-empty (faults_of_body raw) 0 raw.bodies
      (first_empty (of_each (faults_of_body raw) 0 raw.bodies) (end_faults raw) rest-none) n body at

  raw-at : (n : ℕ) (after : Body) → slice_get graph.bodies n ≡ Some after →
      (body : Body) × (slice_get raw.bodies n ≡ Some body)
  raw-at n after at = elim ((slice_get_cases raw.bodies n).1) [
    | inl it ↦ (it.0, it.2)
    | inr past ↦
        (let f = past.0 in let c = count in let w = slice_get_within graph.bodies n after at in
        absurd (let never : ⊥ = omega (f, c, w, arith) in never))
  ]

  bodies-none : of_each (faults_of_body graph) 0 graph.bodies ≡ []
  bodies-none = empty-each (faults_of_body graph) 0 graph.bodies
      (λ n after at. let r = raw-at n after at in bodies n r.0 after r.1 at (raw-none n r.0 r.1))

  -- `main` has as many parameters
  mains-same : (sigs : List Sig) (afters raws : List Body) → length afters ≡ length raws →
      ((n : ℕ) (b a : Body) → slice_get raws n ≡ Some b → slice_get afters n ≡ Some a → a.params ≡ b.params) →
      list_any (is_main graph) (zip sigs afters) ≡ list_any (is_main raw) (zip sigs raws)
  mains-same [] afters raws long same = refl
  mains-same (sig ∷ sigs) [] [] long same = refl
  mains-same (sig ∷ sigs) [] (b ∷ raws) long same = absurd (let never : ⊥ = omega (long, arith) in never)
  mains-same (sig ∷ sigs) (a ∷ afters) [] long same = absurd (let never : ⊥ = omega (long, arith) in never)
  mains-same (sig ∷ sigs) (a ∷ afters) (b ∷ raws) long same =
      let first = same 0 b a refl refl in
      let others = mains-same sigs afters raws (omega (long, arith)) (λ n b a e d. same (suc n) b a e d) in
      λ i. is_main raw (sig, record b { params = first i }) || others i

  main-there : end_faults graph ≡ []
  main-there =
      ap (λ (i : ItemTable). main_faults graph (list_any (is_main graph) (zip i.bodies graph.bodies))) items
      ∙ ap (main_faults raw) (mains-same raw.items.bodies graph.bodies raw.bodies count params)
      ∙ second_empty (of_each (faults_of_body raw) 0 raw.bodies) (end_faults raw) rest-none

  pub well-formed-too : IsWellFormed graph
  well-formed-too =
      empty-both (item_faults graph) (of_each (faults_of_body graph) 0 graph.bodies ++ end_faults graph) items-none
      (empty-both (of_each (faults_of_body graph) 0 graph.bodies) (end_faults graph) bodies-none main-there)
