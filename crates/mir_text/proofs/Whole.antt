-- The graph that was read: its lines, and what a text is by how far it was read.
use Rattle.std.proofs.Common.{◌≡◌, ℕ, zero, suc, ◌+◌, ◌-◌, ◌<◌, ◌≤◌, Bool, true, false, List, [], ◌∷◌, ◌++◌, map, take, length, codes, Option, Some, None, All, slice_get, refl, ap, sym, subst, ◌∙◌, arith, append_assoc, append-nil, length-append, inl, inr}
use Rattle.std.proofs.lemmas.Bool.{false≢true}
use Rattle.std.proofs.lemmas.Option.{same_Some, none-some}
use Rattle.std.proofs.Math.Seq.{take-append_seam, take-append-add}
use Rattle.cfg_graph.specs.declared.graph.Block.{Block}
use Rattle.cfg_graph.specs.declared.graph.Body.{Body}
use Rattle.cfg_graph.specs.declared.graph.Graph.{Graph}
use Rattle.mir_ty.specs.declared.def.ClosureDef.{ClosureDef}
use Rattle.mir_ty.specs.declared.def.Sig.{Sig}
use Rattle.mir_ty.specs.declared.def.TraitDef.{TraitDef}
use Rattle.mir_ty.specs.AreItems.{AreItems, AreTypes, IsAdt, IsSig}
use Rattle.mir_ty.specs.ItemTable.{ItemTable, item_count}
use Rattle.mir_ty.specs.Named.{body_name, sig_name}
use Rattle.listing_write.specs.Compared.{numbered, adt_seen, trait_seen, closure_seen}
use Rattle.listing_write.specs.Lines.{Line, HeadLine, EndLine, lines_of, lines_each, line_of_adt, line_of_trait, line_of_impl, line_of_closure, line_of_stmt, line_of_term, line_of_local, lines_of_block, lines_of_body}
use Rattle.listing_write.specs.Lists.{line}
use Rattle.listing_write.specs.Reading.Words.{strip}
use Rattle.listing_write.proofs.Reading.Basics.{Every}
use Rattle.mir_text.specs.Answers.{blocks_lines, bodies_lines, lines_count}
use Rattle.mir_text.specs.Beginning.{LineStands, texts, HasBeginning, Begins, IsListingOf, IsFirstWrong}
use Rattle.mir_text.specs.Wrong.{wrong_line}
use Rattle.mir_text.proofs.CodeThrough.{block_full, blocks_full}
use Rattle.mir_text.proofs.Fronts.{Fronts, FrontOf, then_front, one_in_front}
use Rattle.mir_text.proofs.GraphLines.{adts_front, traits_front, impls_front, closures_front, bodies_front}
use Rattle.mir_text.proofs.ListedHeads.{Front, spare, after_adts, after_traits, after_impls, rounds_extend}
use Rattle.mir_text.proofs.InFront.{EachFrom}
use Rattle.mir_text.proofs.Longest.{adt_lines, trait_lines, impl_lines, closure_lines, body_lines_of, from_impls, from_adts, lines_are, seen_count, tolds, tolds_full, is_whole, left, Bounded, bounded}
use Rattle.mir_text.proofs.Named.{Extends, length_map}
use Rattle.mir_text.proofs.Passing.{count_seen}
use Rattle.mir_text.proofs.Sections.{texts-append, every_append, every_joined}
use Rattle.mir_text.proofs.Told.{items_front, are_names, settled_extends, all_from_every}
use Rattle.mir_text.proofs.Until.{missing}
use Rattle.listing_parts.proofs.LineByLine.{strip_sound}
use Rattle.mir_text.specs.GraphReading.{items_under, IsRead}
use Rattle.mir_text.specs.BodiesRead.{bodies_told, AreSigned}
use Rattle.mir_text.specs.BodyReading.{bodies_read}
use Rattle.listing_parts.specs.Table.{under, text_under}
use Rattle.listing_parts.proofs.Texts.{every_from_all}

-- lines behind the first, without the last
abbrev pub lines_between : Graph → List Line
lines_between graph =
    adt_lines graph ++ (trait_lines graph ++ (impl_lines graph ++ (closure_lines graph ++ body_lines_of graph)))

pub are_between : (graph : Graph) → from_adts graph ≡ lines_between graph ++ EndLine ∷ []
are_between graph =
    sym (append_assoc (adt_lines graph) (trait_lines graph ++ (impl_lines graph ++ (closure_lines graph ++ body_lines_of graph))) (EndLine ∷ [])
    ∙ ap (λ (ls : List Line). adt_lines graph ++ ls) (append_assoc (trait_lines graph) (impl_lines graph ++ (closure_lines graph ++ body_lines_of graph)) (EndLine ∷ [])
    ∙ ap (λ (ls : List Line). trait_lines graph ++ ls) (append_assoc (impl_lines graph) (closure_lines graph ++ body_lines_of graph) (EndLine ∷ [])
    ∙ ap (λ (ls : List Line). impl_lines graph ++ ls) (append_assoc (closure_lines graph) (body_lines_of graph) (EndLine ∷ [])))))

-- how many there are
numbered_length : {X : Type 0} (f : ℕ → X → Line) (n : ℕ) (xs : List X) → length (numbered f n xs) ≡ length xs
numbered_length f n [] = refl
numbered_length f n (x ∷ xs) = ap suc (numbered_length f (suc n) xs)

module _ (items : ItemTable) where
  blocks_length : (n : ℕ) (blocks : List Block) → length (lines_each (lines_of_block items) n blocks) ≡ blocks_lines blocks
  blocks_length n [] = refl
  blocks_length n (block ∷ blocks) =
      let deeper = blocks_length (suc n) blocks in
      let sum = length-append (lines_of_block items n block) (lines_each (lines_of_block items) (suc n) blocks) in
      let own = length-append (map (line_of_stmt items) block.stmts) (line_of_term items block.term ∷ []) in
      let stmts = length_map (line_of_stmt items) block.stmts in
      omega (arith, deeper, sum, own, stmts)

  bodies_length : (n : ℕ) (bodies : List Body) → length (lines_each (lines_of_body items) n bodies) ≡ bodies_lines bodies
  bodies_length n [] = refl
  bodies_length n (body ∷ bodies) =
      let deeper = bodies_length (suc n) bodies in
      let sum = length-append (lines_of_body items n body) (lines_each (lines_of_body items) (suc n) bodies) in
      let own = length-append (numbered (line_of_local items) 0 body.locals) (lines_each (lines_of_block items) 0 body.blocks) in
      let locals = numbered_length (line_of_local items) 0 body.locals in
      let blocks = blocks_length 0 body.blocks in
      omega (arith, deeper, sum, own, locals, blocks)

pub between_length : (graph : Graph) → length (lines_between graph) ≡ item_count graph.items + bodies_lines graph.bodies
between_length graph =
    let a = length_map (line_of_adt graph.items) graph.items.adts in
    let b = length_map (line_of_trait graph.items) graph.items.traits in
    let c = length_map (line_of_impl graph.items) graph.items.impls in
    let d = numbered_length (line_of_closure graph.items) 0 graph.items.closures in
    let e = bodies_length graph.items 0 graph.bodies in
    let s1 = length-append (closure_lines graph) (body_lines_of graph) in
    let s2 = length-append (impl_lines graph) (closure_lines graph ++ body_lines_of graph) in
    let s3 = length-append (trait_lines graph) (impl_lines graph ++ (closure_lines graph ++ body_lines_of graph)) in
    let s4 = length-append (adt_lines graph) (trait_lines graph ++ (impl_lines graph ++ (closure_lines graph ++ body_lines_of graph))) in
    omega (arith, a, b, c, d, e, s1, s2, s3, s4)

pub from_length : (graph : Graph) → length (from_adts graph) ≡ suc (length (lines_between graph))
from_length graph = let same = ap length (are_between graph) in let sum = length-append (lines_between graph) (EndLine ∷ []) in omega (arith, same, sum)

pub count_is : (graph : Graph) → length (lines_of graph) ≡ lines_count graph
count_is graph =
    let same = ap length (lines_are graph) in
    let all = from_length graph in
    let between = between_length graph in
    omega (arith, same, all, between)

-- bodies have the names of their signatures
names_from : (items : ItemTable) (front sigs : List Sig) → items.bodies ≡ front ++ sigs → EachFrom (λ n sig. body_name items n ≡ sig.name) (length front) sigs
names_from items front [] all = tt
names_from items front (sig ∷ sigs) all = (
  ap sig_name (ap (λ (xs : List Sig). slice_get xs (length front)) all ∙ seam front),
  subst (λ (n : ℕ). EachFrom (λ n sig. body_name items n ≡ sig.name) n sigs) (let sum = length-append front (sig ∷ []) in let next : length (front ++ sig ∷ []) ≡ suc (length front) = omega (arith, sum) in next)
      (names_from items (front ++ sig ∷ []) sigs (all ∙ sym (append_assoc front (sig ∷ []) sigs))),
)
  where
    seam : (xs : List Sig) → slice_get (xs ++ sig ∷ sigs) (length xs) ≡ Some sig
    seam [] = refl
    seam (y ∷ xs) = seam xs

module _ (t : List ℕ) (graph : Graph) (whole : Bool) (rest : List ℕ) (is : IsRead t graph whole rest) (are : AreItems graph.items) where
  x : Extends is.heads graph.items
  x = settled_extends is.heads graph.items t is.settled is.told.items

  bodies_in_front : Fronts graph.items (body_lines_of graph) whole (items_under is.heads t).1 rest
  bodies_in_front =
      let heads : ItemTable = is.heads in
      let front = items_front heads graph.items t is.told.items in
      let u : List ℕ = (items_under heads t).1 in
      let q = bodies_front heads graph.items is.told.drafted.drafted.types x (are_names heads graph.items t front) are (length u) 0 u graph.items.bodies graph.bodies is.told.bodies is.told.drafted.signed
      (names_from graph.items [] graph.items.bodies refl) (every_from_all (λ (body : Body). AreTypes graph.items.types body.locals) graph.bodies is.told.drafted.within) in
      subst (λ (w : Bool). Fronts graph.items (body_lines_of graph) w u rest) (sym is.told.whole_is) (subst (λ (r : List ℕ). Fronts graph.items (body_lines_of graph) (bodies_read heads u).0.1 u r) (sym is.told.rest_is) q)

  pub in_front : Fronts graph.items (lines_between graph) whole t rest
  in_front =
      let heads : ItemTable = is.heads in
      let items : ItemTable = graph.items in
      let front = items_front heads items t is.told.items in
      let names = are_names heads items t front in
      let read = is.told.drafted.drafted.types in
      let drafted = is.told.drafted.drafted in
      let q1 : List ℕ = (after_adts heads t).1 in
      let q2 : List ℕ = (after_traits heads t).1 in
      let q3 : List ℕ = (after_impls heads t).1 in
      let q4 : List ℕ = (items_under heads t).1 in
      then_front items (adt_lines graph) (trait_lines graph ++ (impl_lines graph ++ (closure_lines graph ++ body_lines_of graph))) whole t q1 rest
      (adts_front heads items read x names are 0 items.adts t q1 front.adts front.adts_valid (every_from_all (IsAdt items.types) items.adts drafted.adts))
      (then_front items (trait_lines graph) (impl_lines graph ++ (closure_lines graph ++ body_lines_of graph)) whole q1 q2 rest
      (traits_front heads items read x names are 0 items.traits q1 q2 front.traits front.traits_valid (every_from_all (λ (def : TraitDef). All (IsSig items.types) def.methods) items.traits drafted.traits))
      (then_front items (impl_lines graph) (closure_lines graph ++ body_lines_of graph) whole q2 q3 rest
      (impls_front heads items read x names are 0 items.impls q2 q3 front.impls front.impls_valid)
      (then_front items (closure_lines graph) (body_lines_of graph) whole q3 q4 rest
      (closures_front heads items read x names are 0 items.closures q3 q4 front.closures front.closures_valid (every_from_all (λ (def : ClosureDef). AreTypes items.types def.captures) items.closures drafted.closures))
      bodies_in_front)))

  -- lines that were read are those of the graph
  tolds_are : (heads : ItemTable) (sigs : List Sig) (bodies : List Body) → AreSigned graph.items sigs bodies → tolds_full (bodies_told heads graph.items sigs bodies) ≡ bodies_lines bodies
  tolds_are heads [] [] signed = refl
  tolds_are heads [] (body ∷ bodies) signed = absurd signed
  tolds_are heads (sig ∷ sigs) [] signed = absurd signed
  tolds_are heads (sig ∷ sigs) (body ∷ bodies) signed =
      let deeper = tolds_are heads sigs bodies signed.1 in
      let locals = length_map (text_under heads graph.items) body.locals in
      let blocks = blocks_are body.blocks in
      omega (arith, deeper, locals, blocks)
    where
      blocks_are : (blocks : List Block) → blocks_full blocks ≡ blocks_lines blocks
      blocks_are [] = refl
      blocks_are (block ∷ blocks) = ap (λ (n : ℕ). block_full block + n) (blocks_are blocks)

  read_lines : seen_count is.heads t + tolds_full (tolds is.heads t) ≡ length (lines_between graph)
  read_lines =
      let heads : ItemTable = is.heads in
      let seen = ap count_seen is.told.items in
      let a = length_map (adt_seen (under heads graph.items)) graph.items.adts in
      let b = length_map (trait_seen (under heads graph.items)) graph.items.traits in
      let d = length_map (closure_seen (under heads graph.items)) graph.items.closures in
      let told = ap tolds_full is.told.bodies in
      let own = tolds_are heads graph.items.bodies graph.bodies is.told.drafted.signed in
      let between = between_length graph in
      omega (arith, seen, a, b, d, told, own, between)

  module _ (text : List ℕ) (first : text ≡ line (codes "mirdrop 1") ++ t) where
    -- a beginning of the text
    behind_first : (other : Graph) (n : ℕ) (behind : List ℕ) → text ≡ texts (take (suc n) (lines_of other)) ++ behind → t ≡ texts (take n (from_adts other)) ++ behind
    behind_first other n behind same =
        let at : line (codes "mirdrop 1") ++ t ≡ line (codes "mirdrop 1") ++ (texts (take n (from_adts other)) ++ behind) =
        sym first ∙ same ∙ ap (λ (ls : List Line). texts (take (suc n) ls) ++ behind) (lines_are other) ∙ append_assoc (line (codes "mirdrop 1")) (texts (take n (from_adts other))) behind in
        same_Some t (texts (take n (from_adts other)) ++ behind) (ap (strip (line (codes "mirdrop 1"))) at)

    other_bounded : (other : Graph) (n : ℕ) (behind : List ℕ) → AreItems other.items → suc n ≤ length (lines_of other) → length other.items.adts + length other.items.traits < suc n
        → Every (LineStands other.items) (take (suc n) (lines_of other)) → text ≡ texts (take (suc n) (lines_of other)) ++ behind → Bounded (length (from_adts other)) is.heads t n behind
    other_bounded other n behind others enough declared stand same =
        let stands : Every (LineStands other.items) (take (suc n) (HeadLine ∷ from_adts other)) = subst (λ (ls : List Line). Every (LineStands other.items) (take (suc n) ls)) (lines_are other) stand in
        let at = behind_first other n behind same in
        let all = ap length (lines_are other) in
        bounded other is.heads
        (subst (Extends other.items) (sym is.settled.are) (rounds_extend other.items t (front_of n at stands.1 (let a = length_map (line_of_adt other.items) other.items.adts in let b = length_map (line_of_trait other.items) other.items.traits in omega (arith, a, b, declared))) is.settled.rounds)) t n behind
        (omega (arith, all, enough)) stands.1 at
      where
        front_of : (n : ℕ) → t ≡ texts (take n (from_adts other)) ++ behind → Every (LineStands other.items) (take n (from_adts other)) → length (adt_lines other) + length (trait_lines other) ≤ n → Front other.items t
        front_of n at stand many =
            let own : List Line = adt_lines other ++ trait_lines other in
            let sum = length-append (adt_lines other) (trait_lines other) in
            let room = spare (length own) n (omega (arith, sum, many)) in
            let taken : take n (from_adts other) ≡ own ++ take room.0 (from_impls other) =
            ap (λ (k : ℕ). take k (from_adts other)) room.1 ∙ ap (take (length own + room.0)) (sym (append_assoc (adt_lines other) (trait_lines other) (from_impls other))) ∙ take-append-add own (from_impls other) room.0 in
            let stands = every_append (LineStands other.items) own (take room.0 (from_impls other)) (subst (Every (LineStands other.items)) taken stand) in
            let parts = every_append (LineStands other.items) (adt_lines other) (trait_lines other) stands.0 in
            let more : List ℕ = texts (take room.0 (from_impls other)) ++ behind in
            record {
              rest = more;
              is =
                  at ∙ ap (λ (ls : List Line). texts ls ++ behind) taken
                  ∙ ap (λ (w : List ℕ). w ++ behind) (texts-append own (take room.0 (from_impls other)) ∙ ap (λ (w : List ℕ). w ++ texts (take room.0 (from_impls other))) (texts-append (adt_lines other) (trait_lines other)))
                  ∙ append_assoc (texts (adt_lines other) ++ texts (trait_lines other)) (texts (take room.0 (from_impls other))) behind
                  ∙ append_assoc (texts (adt_lines other)) (texts (trait_lines other)) more;
              adts = parts.0;
              traits = parts.1;
            }

    beginning_bounded : (n : ℕ) → Begins text (suc n) → (other : Graph) × (behind : List ℕ) × Bounded (length (from_adts other)) is.heads t n behind
    beginning_bounded n b =
        let other : Graph = b.0 in
        let has : HasBeginning text (suc n) other = b.1 in
        (other, has.behind, other_bounded other n has.behind has.items has.enough has.declared (every_from_all (LineStands other.items) (take (suc n) (lines_of other)) has.stand) has.same)

    whole_flag : is_whole is.heads t ≡ whole
    whole_flag = sym is.told.whole_is

    rest_flag : left is.heads t ≡ rest
    rest_flag = sym is.told.rest_is

    -- the whole of a listing is read to its end
    listing_ends : (other : Graph) → IsListingOf text other → (whole ≡ true) × (rest ≡ line (codes "end"))
    listing_ends other listed =
        let n : ℕ = length (from_adts other) in
        let all = ap length (lines_are other) in
        let enough : suc n ≡ length (lines_of other) = omega (arith, all) in
        let taken : take (suc n) (lines_of other) ≡ lines_of other = ap (λ (k : ℕ). take k (lines_of other)) enough ∙ take_all (lines_of other) in
        let own = from_length other in
        let between = between_length other in
        let result = other_bounded other n [] listed.items (omega (arith, enough)) (omega (arith, own, between))
        (subst (Every (LineStands other.items)) (sym taken) (every_from_all (LineStands other.items) (lines_of other) listed.stand)) (listed.same ∙ sym (append-nil (texts (lines_of other))) ∙ ap (λ (ls : List Line). texts ls ++ []) (sym taken)) in
        by result
      where
        take_all : {X : Type 0} (xs : List X) → take (length xs) xs ≡ xs
        take_all [] = refl
        take_all (y ∷ xs) = ap (λ (ys : List _). y ∷ ys) (take_all xs)

        by : Bounded (length (from_adts other)) is.heads t (length (from_adts other)) [] → (whole ≡ true) × (rest ≡ line (codes "end"))
        by (inl h) = absurd (let less = h.0 in omega (arith, less))
        by (inr h) = (sym whole_flag ∙ h.0, sym rest_flag ∙ h.2)

    all_in_front : Fronts graph.items (HeadLine ∷ lines_between graph) whole text rest
    all_in_front = then_front graph.items (HeadLine ∷ []) (lines_between graph) whole text t rest (one_in_front graph.items HeadLine text t first tt) in_front

    lines_so : lines_of graph ≡ (HeadLine ∷ lines_between graph) ++ EndLine ∷ []
    lines_so = lines_are graph ∙ ap (λ (ls : List Line). HeadLine ∷ ls) (are_between graph)

    -- lines of the graph that stand in front are a beginning
    begins_so : (front more : List Line) (behind : List ℕ) → lines_of graph ≡ front ++ more → Every (LineStands graph.items) front → text ≡ texts front ++ behind
        → length graph.items.adts + length graph.items.traits < length front → Begins text (length front)
    begins_so [] more behind all stand same declared = absurd (omega (arith, declared))
    begins_so (l ∷ ls) more behind all stand same declared =
        let own : List Line = l ∷ ls in
        let taken : take (length own) (lines_of graph) ≡ own = ap (take (length own)) all ∙ take-append_seam own more in
        let sum = ap length all ∙ length-append own more in (
          graph,
          record {
            items = are;
            enough = omega (arith, sum);
            declared = declared;
            stand = all_from_every (LineStands graph.items) (take (length own) (lines_of graph)) (subst (Every (LineStands graph.items)) (sym taken) stand);
            behind = behind;
            same = same ∙ ap (λ (xs : List Line). texts xs ++ behind) (sym taken);
          },
        )

    no_longer : (before : ℕ) → ((n : ℕ) (other : Graph) (behind : List ℕ) → Bounded (length (from_adts other)) is.heads t n behind → suc n ≤ before) → (count : ℕ) → Begins text count → count ≤ before
    no_longer before each zero b = omega arith
    no_longer before each (suc n) b = let q = beginning_bounded n b in each n q.0 q.1 q.2

    -- the last block is broken off
    broken : whole ≡ false → IsFirstWrong text (lines_count graph - 1)
    broken e =
        let f = all_in_front in
        let cut = subst (λ (w : Bool). FrontOf w (HeadLine ∷ lines_between graph) f.front) e f.whole_is in
        let body_cut = subst (λ (w : Bool). FrontOf w (body_lines_of graph) bodies_in_front.front) e bodies_in_front.whole_is in
        by f.front f.is f.stand cut body_cut
      where
        by : (front : List Line) → text ≡ texts front ++ rest → Every (LineStands graph.items) (HeadLine ∷ lines_between graph) → (last : Line) × (HeadLine ∷ lines_between graph ≡ front ++ last ∷ [])
            → (last : Line) × (body_lines_of graph ≡ bodies_in_front.front ++ last ∷ []) → IsFirstWrong text (lines_count graph - 1)
        by front at stand cut body_cut =
            let between = between_length graph in
            let size = ap length cut.1 ∙ length-append front (cut.0 ∷ []) in
            let bodies = ap length body_cut.1 ∙ length-append bodies_in_front.front (body_cut.0 ∷ []) in
            let own = bodies_length graph.items 0 graph.bodies in
            let read = read_lines in
            let all : lines_of graph ≡ front ++ (cut.0 ∷ EndLine ∷ []) = lines_so ∙ ap (λ (ls : List Line). ls ++ EndLine ∷ []) cut.1 ∙ append_assoc front (cut.0 ∷ []) (EndLine ∷ []) in
            record {
              before = length front;
              next = omega (arith, size, between);
              begins = begins_so front (cut.0 ∷ EndLine ∷ []) rest all (every_append (LineStands graph.items) front (cut.0 ∷ []) (subst (Every (LineStands graph.items)) cut.1 stand)).0 at (omega (arith, size, between, bodies, own));
              longest = no_longer (length front) (λ n other behind b. least n other behind (omega (arith, size, read)) b);
              no_listing = λ other listed. absurd (false≢true (sym e ∙ (listing_ends other listed).0));
            }
          where
            least : (n : ℕ) (other : Graph) (behind : List ℕ) → length front ≡ seen_count is.heads t + tolds_full (tolds is.heads t) → Bounded (length (from_adts other)) is.heads t n behind → suc n ≤ length front
            least n other behind size (inl h) =
                let some = h.1 in
                let flag : missing (is_whole is.heads t) ≡ 1 = ap missing (whole_flag ∙ e) in
                omega (arith, size, some, flag)
            least n other behind size (inr h) = absurd (false≢true (sym e ∙ sym whole_flag ∙ h.0))

    -- the line `end` is not there
    no_end : whole ≡ true → strip (line (codes "end")) rest ≡ None → IsFirstWrong text (lines_count graph)
    no_end e none =
        let f = all_in_front in
        let own : List Line = HeadLine ∷ lines_between graph in
        let same : own ≡ f.front = subst (λ (w : Bool). FrontOf w own f.front) e f.whole_is in
        let between = between_length graph in
        let read = read_lines in
        record {
          before = length own;
          next = omega (arith, between);
          begins = begins_so own (EndLine ∷ []) rest lines_so f.stand (f.is ∙ ap (λ (ls : List Line). texts ls ++ rest) (sym same)) (omega (arith, between));
          longest = no_longer (length own) (λ n other behind b. least n other behind read b);
          no_listing = λ other listed. absurd (none-some [] (sym none ∙ ap (strip (line (codes "end"))) (listing_ends other listed).1));
        }
      where
        least : (n : ℕ) (other : Graph) (behind : List ℕ) → seen_count is.heads t + tolds_full (tolds is.heads t) ≡ length (lines_between graph) → Bounded (length (from_adts other)) is.heads t n behind → suc n ≤ length (HeadLine ∷ lines_between graph)
        least n other behind read (inl h) = let some = h.1 in omega (arith, some, read)
        least n other behind read (inr h) = absurd (none-some behind (sym none ∙ ap (strip (line (codes "end"))) (sym rest_flag ∙ h.2)))

    -- something stands behind it
    more_behind : (b : ℕ) (bs : List ℕ) → whole ≡ true → strip (line (codes "end")) rest ≡ Some (b ∷ bs) → IsFirstWrong text (lines_count graph + 1)
    more_behind b bs e some =
        let f = all_in_front in
        let own : List Line = HeadLine ∷ lines_between graph in
        let same : own ≡ f.front = subst (λ (w : Bool). FrontOf w own f.front) e f.whole_is in
        let all : List Line = own ++ EndLine ∷ [] in
        let between = between_length graph in
        let read = read_lines in
        let size = length-append own (EndLine ∷ []) in
        let at : text ≡ texts all ++ (b ∷ bs) =
        f.is ∙ (λ i. texts (sym same i) ++ strip_sound (line (codes "end")) rest (b ∷ bs) some i) ∙ sym (append_assoc (texts own) (line (codes "end")) (b ∷ bs)) ∙ ap (λ (w : List ℕ). w ++ (b ∷ bs)) (sym (texts-append own (EndLine ∷ []))) in
        record {
          before = length all;
          next = omega (arith, between, size);
          begins = begins_so all [] (b ∷ bs) (lines_so ∙ sym (append-nil all)) (every_joined (LineStands graph.items) own (EndLine ∷ []) f.stand (tt, tt)) at (omega (arith, between, size));
          longest = no_longer (length all) (λ n other behind c. least n other behind read (omega (arith, size)) c);
          no_listing = λ other listed. absurd (some_more (sym some ∙ ap (strip (line (codes "end"))) (listing_ends other listed).1));
        }
      where
        least : (n : ℕ) (other : Graph) (behind : List ℕ) → seen_count is.heads t + tolds_full (tolds is.heads t) ≡ length (lines_between graph) → length ((HeadLine ∷ lines_between graph) ++ EndLine ∷ []) ≡ 2 + length (lines_between graph)
            → Bounded (length (from_adts other)) is.heads t n behind → suc n ≤ length ((HeadLine ∷ lines_between graph) ++ EndLine ∷ [])
        least n other behind read size (inl h) = let some = h.1 in omega (arith, some, read, size)
        least n other behind read size (inr h) = let same = h.1 in omega (arith, same, read, size)

        some_more : ◌≡◌ {A = Option (List ℕ)} (Some (b ∷ bs)) (Some []) → ⊥
        some_more e = cc e

    -- nothing does: the text is the listing
    pub is_listing : whole ≡ true → strip (line (codes "end")) rest ≡ Some [] → IsListingOf text graph
    is_listing e some =
        let f = all_in_front in
        let own : List Line = HeadLine ∷ lines_between graph in
        let same : own ≡ f.front = subst (λ (w : Bool). FrontOf w own f.front) e f.whole_is in
        let all : List Line = own ++ EndLine ∷ [] in
        record {
          items = are;
          stand = all_from_every (LineStands graph.items) (lines_of graph) (subst (Every (LineStands graph.items)) (sym lines_so) (every_joined (LineStands graph.items) own (EndLine ∷ []) f.stand (tt, tt)));
          same =
              f.is ∙ (λ i. texts (sym same i) ++ (strip_sound (line (codes "end")) rest [] some) i) ∙ sym (texts-append own (EndLine ∷ [])) ∙ ap texts (sym lines_so);
        }

    pub first_wrong : (n : ℕ) → wrong_line (lines_count graph) whole (strip (line (codes "end")) rest) ≡ Some n → IsFirstWrong text n
    first_wrong n h = by whole refl (strip (line (codes "end")) rest) refl h
      where
        by : (w : Bool) → whole ≡ w → (o : Option (List ℕ)) → strip (line (codes "end")) rest ≡ o → wrong_line (lines_count graph) w o ≡ Some n → IsFirstWrong text n
        by false e o f h = subst (IsFirstWrong text) (same_Some (lines_count graph - 1) n h) (broken e)
        by true e None f h = subst (IsFirstWrong text) (same_Some (lines_count graph) n h) (no_end e f)
        by true e (Some []) f h = absurd (none-some n h)
        by true e (Some (b ∷ bs)) f h = subst (IsFirstWrong text) (same_Some (lines_count graph + 1) n h) (more_behind b bs e f)

    pub listing_read : wrong_line (lines_count graph) whole (strip (line (codes "end")) rest) ≡ None → IsListingOf text graph
    listing_read h = by whole refl (strip (line (codes "end")) rest) refl h
      where
        by : (w : Bool) → whole ≡ w → (o : Option (List ℕ)) → strip (line (codes "end")) rest ≡ o → wrong_line (lines_count graph) w o ≡ None → IsListingOf text graph
        by false e o f h = absurd (none-some (lines_count graph - 1) (sym h))
        by true e None f h = absurd (none-some (lines_count graph) (sym h))
        by true e (Some []) f h = is_listing e f
        by true e (Some (b ∷ bs)) f h = absurd (none-some (lines_count graph + 1) (sym h))

-- the first line is wrong
pub no_first : (text : List ℕ) → strip (line (codes "mirdrop 1")) text ≡ None → IsFirstWrong text 1
no_first text none = record {
  before = 0;
  next = refl;
  begins = tt;
  longest = each;
  no_listing = λ other listed.
      let at : text ≡ line (codes "mirdrop 1") ++ texts (from_adts other) = listed.same ∙ ap texts (lines_are other) in
      absurd (none-some (texts (from_adts other)) (sym none ∙ ap (strip (line (codes "mirdrop 1"))) at));
}
  where
    each : (count : ℕ) → Begins text count → count ≤ 0
    each zero b = omega arith
    each (suc n) b =
        let other : Graph = b.0 in
        let has : HasBeginning text (suc n) other = b.1 in
        let at : text ≡ line (codes "mirdrop 1") ++ (texts (take n (from_adts other)) ++ has.behind) =
        has.same ∙ ap (λ (ls : List Line). texts (take (suc n) ls) ++ has.behind) (lines_are other) ∙ append_assoc (line (codes "mirdrop 1")) (texts (take n (from_adts other))) has.behind in
        absurd (none-some (texts (take n (from_adts other)) ++ has.behind) (sym none ∙ ap (strip (line (codes "mirdrop 1"))) at))
