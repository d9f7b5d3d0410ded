-- The lines of blocks and bodies are read through, as far as a text has them.
use Rattle.std.proofs.Common.{◌≡◌, ℕ, zero, suc, ◌+◌, ◌<◌, ◌≤◌, Bool, true, false, List, [], ◌∷◌, ◌++◌, map, take, length, Some, None, refl, ap, sym, subst, ◌∙◌, arith, append_assoc, length-append, inl, inr}
use Rattle.std.specs.Prelude.{◌⊎◌, ⊤}
use Rattle.cfg_graph.specs.declared.graph.Block.{Block}
use Rattle.cfg_graph.specs.declared.graph.Body.{Body}
use Rattle.cfg_graph.specs.declared.graph.Kind.{Kind}
use Rattle.cfg_graph.specs.declared.statement.Stmt.{Stmt}
use Rattle.cfg_graph.specs.declared.terminator.Term.{Term}
use Rattle.mir_ty.specs.declared.ty.TyId.{TyId}
use Rattle.mir_ty.specs.ItemTable.{ItemTable}
use Rattle.mir_ty.specs.Named.{body_name}
use Rattle.listing_write.specs.Compared.{Written, numbered}
use Rattle.listing_write.specs.Lines.{Line, HeadLine, StructLine, EnumLine, TraitLine, ImplLine, ClosureLine, BodyLine, LocalLine, BlockLine, MakeLine, UnsizeLine, StmtLine, VirtualLine, TermLine, EndLine, line_text, tree_of, tree_text, lines_each, line_of_stmt, line_of_term, line_of_local, lines_of_block, lines_of_body}
use Rattle.listing_write.specs.Lists.{line}
use Rattle.listing_write.specs.Reading.Rows.{many}
use Rattle.listing_write.specs.Reading.Words.{FoundInText, bind}
use Rattle.listing_write.proofs.Reading.Basics.{Every}
use Rattle.mir_text.specs.Beginning.{LineStands, texts}
use Rattle.mir_text.proofs.Named.{Extends, length_map, tree_up, stmt_up, term_up}
use Rattle.mir_text.proofs.Sections.{Begin, Passes, Grows, Read, section, counted_so}
use Rattle.mir_text.proofs.Until.{Founds, Rows, rows_through, Partly, Wholly, PartlyAll, WhollyAll, total, missing, broken_some, until}
use Rattle.listing_lines.specs.CodeReading.{statement_read, terminator_read, closed, code_behind, code_read, blocks_read}
use Rattle.listing_lines.specs.CodeStands.{stmt_in, term_in}
use Rattle.listing_lines.proofs.CodeComplete.{statements_read, terminators_read, no_statements}
use Rattle.listing_lines.specs.LineReading as lines
use Rattle.listing_lines.proofs.Complete.{blocks_read_, bodies_read_, locals_read_}
use Rattle.mir_text.specs.BodyReading.{BodyTold, one_local, locals_read, with_locals, body_read, bodies_read}
use Rattle.listing_parts.proofs.Splits.{split, same_found}

-- the lines of a block that was read, and of a body
abbrev pub block_full : Block → ℕ
block_full block = 2 + length block.stmts

abbrev pub blocks_full : List Block → ℕ
blocks_full [] = 0
blocks_full (block ∷ blocks) = block_full block + blocks_full blocks

abbrev pub told_full : BodyTold → ℕ
told_full told = 1 + length told.locals + blocks_full told.blocks

-- what stands behind a body
abbrev pub EndsBody : Line → Type 0
EndsBody (BodyLine n name params) = ⊤
EndsBody EndLine = ⊤
EndsBody _ = ⊥

abbrev pub EndsAll : Line → Type 0
EndsAll EndLine = ⊤
EndsAll _ = ⊥

module _ (items heads : ItemTable) (x : Extends items heads) where
  founds : (stmts : List Stmt) → Founds (statement_read heads) (LineStands items) (map (line_of_stmt items) stmts)
  founds [] = tt
  founds (stmt ∷ stmts) = ((stmt_in heads (line_of_stmt items stmt), λ s r. statements_read heads (line_of_stmt items stmt) r (stmt_up items heads x stmt s)), founds stmts)

  -- a block
  one_block : (n : ℕ) (block : Block) (after : List Line) (c : ℕ) (t behind : List ℕ) → Begin (λ l. ⊤) after → Every (LineStands items) (take (suc c) (lines_of_block items n block ++ after))
      → t ≡ texts (take (suc c) (lines_of_block items n block ++ after)) ++ behind
      → Partly (code_read heads) (lines_of_block items) block_full (LineStands items) (λ l. ⊤) EndsBody (length (lines_of_block items n block)) (suc c) (code_read heads n t)
      ⊎ Wholly (code_read heads) (lines_of_block items) block_full (LineStands items) (λ l. ⊤) EndsBody (length (lines_of_block items n block)) (suc c) after behind (code_read heads n t)
  one_block n block after c t behind b stand is =
      let ls : List Line = map (line_of_stmt items) block.stmts in
      let term : Line = line_of_term items block.term in
      let rest : List Line = term ∷ after in
      let same : (ls ++ term ∷ []) ++ after ≡ ls ++ rest = append_assoc ls (term ∷ []) after in
      let u : List ℕ = texts (take c (ls ++ rest)) ++ behind in
      let stands : Every (LineStands items) (take c (ls ++ rest)) = subst (λ (xs : List Line). Every (LineStands items) (take c xs)) same stand.1 in
      let at : t ≡ line (line_text (BlockLine n block.kind block.rank)) ++ u =
      is ∙ append_assoc (line (line_text (BlockLine n block.kind block.rank))) (texts (take c ((ls ++ term ∷ []) ++ after))) behind
      ∙ ap (λ (xs : List Line). line (line_text (BlockLine n block.kind block.rank)) ++ (texts (take c xs) ++ behind)) same in
      let head : lines.block_read n t ≡ Some ((block.kind, block.rank), u) = ap (lines.block_read n) at ∙ blocks_read_ n block.kind block.rank u stand.0.0 stand.0.1 in
      let m : List Stmt × List ℕ = many (statement_read heads) u in
      let found : code_read heads n t ≡ Some (closed (block.kind, block.rank) m.0 m.1 (terminator_read heads m.1)) = ap (λ (f : FoundInText (Kind × ℕ)). bind f (λ head. Some (code_behind heads head.0 (many (statement_read heads) head.1)))) head in
      by m found
      (rows_through (statement_read heads) (LineStands items) ls rest (length u) c u behind (founds block.stmts) (λ s r. no_statements heads term r (term_up items heads x block.term s)) stands refl (omega arith))
      (ends_stand ls rest c stands)
    where
      -- where the terminator is among the lines, it stands
      ends_stand : (ls rest : List Line) (c : ℕ) → Every (LineStands items) (take c (ls ++ rest)) → (d : ℕ) → c ≡ length ls + suc d → Every (LineStands items) (take (suc d) rest)
      ends_stand [] rest c h d e = subst (λ (k : ℕ). Every (LineStands items) (take k rest)) (let same : c ≡ suc d = omega arith in same) h
      ends_stand (l ∷ ls) rest zero h d e = absurd (omega arith)
      ends_stand (l ∷ ls) rest (suc c) h d e = ends_stand ls rest c h.1 d (omega arith)

      size : length (lines_of_block items n block) ≡ 2 + length block.stmts
      size =
          let stmts = length_map (line_of_stmt items) block.stmts in
          let sum = length-append (map (line_of_stmt items) block.stmts) (line_of_term items block.term ∷ []) in
          omega (arith, stmts, sum)

      by : (m : List Stmt × List ℕ) → code_read heads n t ≡ Some (closed (block.kind, block.rank) m.0 m.1 (terminator_read heads m.1))
          → Rows (statement_read heads) (LineStands items) (map (line_of_stmt items) block.stmts) (line_of_term items block.term ∷ after) c behind m
          → ((d : ℕ) → c ≡ length (map (line_of_stmt items) block.stmts) + suc d → Every (LineStands items) (take (suc d) (line_of_term items block.term ∷ after)))
          → Partly (code_read heads) (lines_of_block items) block_full (LineStands items) (λ l. ⊤) EndsBody (length (lines_of_block items n block)) (suc c) (code_read heads n t)
          ⊎ Wholly (code_read heads) (lines_of_block items) block_full (LineStands items) (λ l. ⊤) EndsBody (length (lines_of_block items n block)) (suc c) after behind (code_read heads n t)
      by m found (inl h) term_stands = inl (at (terminator_read heads m.1) found)
        where
          at : (o : FoundInText Term) → code_read heads n t ≡ Some (closed (block.kind, block.rank) m.0 m.1 o)
              → Partly (code_read heads) (lines_of_block items) block_full (LineStands items) (λ l. ⊤) EndsBody (length (lines_of_block items n block)) (suc c) (code_read heads n t)
          at None found =
              let few = h.0 in
              let got = h.1 in
              let stmts = length_map (line_of_stmt items) block.stmts in
              let own = size in
              record { few = omega (arith, few, stmts, own); thing = (closed (block.kind, block.rank) m.0 m.1 None).0.0; whole = false; rest = m.1; is = found; some = omega (arith, got) }
          at (Some f) found =
              let few = h.0 in
              let got = h.1 in
              let stmts = length_map (line_of_stmt items) block.stmts in
              let own = size in
              record { few = omega (arith, few, stmts, own); thing = (closed (block.kind, block.rank) m.0 m.1 (Some f)).0.0; whole = true; rest = f.1; is = found; some = omega (arith, got) }
      by m found (inr h) term_stands =
          let term : Line = line_of_term items block.term in
          let u : List ℕ = texts (take h.0 after) ++ behind in
          let split : m.1 ≡ line (line_text term) ++ u = h.3 ∙ append_assoc (line (line_text term)) (texts (take h.0 after)) behind in
          let read : terminator_read heads m.1 ≡ Some (term_in heads term, u) = ap (terminator_read heads) split ∙ terminators_read heads term u (term_up items heads x block.term (term_stands h.0 h.1).0) in
          let whole : code_read heads n t ≡ Some ((record { kind = block.kind; rank = block.rank; stmts = m.0; term = term_in heads term }, true), u) =
          found ∙ ap (λ (f : FoundInText Term). Some (closed (block.kind, block.rank) m.0 m.1 f)) read in
          let stmts = length_map (line_of_stmt items) block.stmts in
          let own = size in
          let count = h.2 in
          let many = h.1 in
          at h.0 refl (omega (arith, many, stmts)) (record { kind = block.kind; rank = block.rank; stmts = m.0; term = term_in heads term }) whole (omega (arith, count, stmts))
        where
          at : (d : ℕ) → d ≡ h.0 → c ≡ length block.stmts + suc d → (made : Block) → code_read heads n t ≡ Some ((made, true), texts (take d after) ++ behind) → length made.stmts ≡ length block.stmts
              → Partly (code_read heads) (lines_of_block items) block_full (LineStands items) (λ l. ⊤) EndsBody (length (lines_of_block items n block)) (suc c) (code_read heads n t)
              ⊎ Wholly (code_read heads) (lines_of_block items) block_full (LineStands items) (λ l. ⊤) EndsBody (length (lines_of_block items n block)) (suc c) after behind (code_read heads n t)
          at zero e many made whole count = let own = size in inl (record { few = omega (arith, own, many); thing = made; whole = true; rest = texts (take zero after) ++ behind; is = whole; some = omega (arith, many, count) })
          at (suc d) e many made whole count = let own = size in inr (record { more = d; many = omega (arith, own, many); thing = made; is = whole; all = omega (arith, own, count) })

  no_block : (n : ℕ) (l : Line) (r : List ℕ) → EndsBody l → code_read heads n (line (line_text l) ++ r) ≡ None
  no_block n (BodyLine m name params) r e = refl
  no_block n EndLine r e = refl
  no_block n other r e = absurd e

  -- locals
  abbrev LocalsPass : ℕ → List TyId → Type 0
  LocalsPass n ids =
      (s : List Written) → n ≡ length s → (u : List Written) × Passes (one_local heads) (λ (xs : List Written). length xs) (LineStands items) s (numbered (line_of_local items) n ids) u

  locals_pass : (ids : List TyId) (n : ℕ) → LocalsPass n ids
  locals_pass [] n s due = (s, refl)
  locals_pass (id ∷ ids) n s due =
      let word : List ℕ = tree_text (tree_of items id) in
      let next : List Written = s ++ word ∷ [] in
      let count : length next ≡ suc (length s) = (let sum = length-append s (word ∷ []) in omega (arith, sum)) in
      let deeper = locals_pass ids (suc n) next (omega (arith, due, count)) in (
        deeper.0,
        (
          next,
          λ stands r. ap (λ (f : FoundInText (List ℕ)). bind f (λ f. Some (s ++ f.0 ∷ [], f.1)))
              (ap (λ (k : ℕ). lines.local_read heads k (line (line_text (line_of_local items n id)) ++ r)) (sym due) ∙ locals_read_ heads n (tree_of items id) r stands.0 (tree_up items heads x (tree_of items id) stands.1)),
          count,
          deeper.1,
        ),
      )

  locals_grow : Grows (one_local heads) (λ (xs : List Written). length xs) (LineStands items)
  locals_grow s u t r h =
      let (f, found, last) = split (lines.local_read heads (length s) t) (λ f. Some (s ++ f.0 ∷ [], f.1)) (u, r) h in
      let (own, back) = same_found (s ++ f.0 ∷ []) f.1 u r last in
      let sum = length-append s (f.0 ∷ []) in
      let same = ap length own in
      omega (arith, sum, same)

  no_local_at : (l : Line) (s : List Written) (r : List ℕ) → EndsBody l → one_local heads s (line (line_text l) ++ r) ≡ None
  no_local_at (BodyLine m name params) s r e = refl
  no_local_at EndLine s r e = refl
  no_local_at other s r e = absurd e

  locals_end : (blocks : List Block) (after : List Line) → Begin EndsBody after
      → Begin (λ l. (s : List Written) (r : List ℕ) → one_local heads s (line (line_text l) ++ r) ≡ None) (lines_each (lines_of_block items) 0 blocks ++ after)
  locals_end [] [] h = absurd h
  locals_end [] (l ∷ ls) h = λ s r. no_local_at l s r h
  locals_end (block ∷ blocks) after h = λ s r. refl

  -- a body
  block_some : (block : Block) → 0 < block_full block
  block_some block = omega arith

  blocks_until : (blocks : List Block) (c : ℕ) (t behind : List ℕ) (after : List Line) → Begin EndsBody after → Every (LineStands items) (take c (lines_each (lines_of_block items) 0 blocks ++ after))
      → t ≡ texts (take c (lines_each (lines_of_block items) 0 blocks ++ after)) ++ behind
      → PartlyAll (code_read heads) (lines_of_block items) block_full (LineStands items) (λ l. ⊤) EndsBody (length (lines_each (lines_of_block items) 0 blocks)) c (blocks_read heads t)
      ⊎ WhollyAll (code_read heads) (lines_of_block items) block_full (LineStands items) (λ l. ⊤) EndsBody (length (lines_each (lines_of_block items) 0 blocks)) c after behind (blocks_read heads t)
  blocks_until blocks c t behind after e stand is =
      until (code_read heads) (lines_of_block items) block_full (LineStands items) (λ l. ⊤) EndsBody block_some one_block (λ n block. tt) (λ l h. tt) no_block blocks 0 (length t) c t behind after e stand is (omega arith)

  full_is : (blocks : List Block) → total (code_read heads) (lines_of_block items) block_full (LineStands items) (λ l. ⊤) EndsBody blocks ≡ blocks_full blocks
  full_is [] = refl
  full_is (block ∷ blocks) = ap (λ (n : ℕ). block_full block + n) (full_is blocks)

  blocks_broken : (t : List ℕ) → missing (blocks_read heads t).0.1 ≤ blocks_full (blocks_read heads t).0.0
  blocks_broken t =
      let least = broken_some (code_read heads) (lines_of_block items) block_full (LineStands items) (λ l. ⊤) EndsBody block_some (length t) 0 t in
      let same = full_is (blocks_read heads t).0.0 in
      omega (arith, least, same)

  abbrev BodyPartly : ℕ → ℕ → FoundInText (BodyTold × Bool) → Type 0
  BodyPartly = Partly (body_read heads) (lines_of_body items) told_full (LineStands items) EndsBody EndsAll

  abbrev BodyWholly : ℕ → ℕ → List Line → List ℕ → FoundInText (BodyTold × Bool) → Type 0
  BodyWholly = Wholly (body_read heads) (lines_of_body items) told_full (LineStands items) EndsBody EndsAll

  pub one_body : (n : ℕ) (body : Body) (after : List Line) (c : ℕ) (t behind : List ℕ) → Begin EndsBody after → Every (LineStands items) (take (suc c) (lines_of_body items n body ++ after))
      → t ≡ texts (take (suc c) (lines_of_body items n body ++ after)) ++ behind
      → BodyPartly (length (lines_of_body items n body)) (suc c) (body_read heads n t) ⊎ BodyWholly (length (lines_of_body items n body)) (suc c) after behind (body_read heads n t)
  one_body n body after c t behind e stand is =
      let ls : List Line = numbered (line_of_local items) 0 body.locals in
      let ks : List Line = lines_each (lines_of_block items) 0 body.blocks in
      let rest : List Line = ks ++ after in
      let own : Line = BodyLine n (body_name items n) body.params in
      let same : (ls ++ ks) ++ after ≡ ls ++ rest = append_assoc ls ks after in
      let u : List ℕ = texts (take c (ls ++ rest)) ++ behind in
      let stands : Every (LineStands items) (take c (ls ++ rest)) = subst (λ (xs : List Line). Every (LineStands items) (take c xs)) same stand.1 in
      let at : t ≡ line (line_text own) ++ u =
      is ∙ append_assoc (line (line_text own)) (texts (take c ((ls ++ ks) ++ after))) behind ∙ ap (λ (xs : List Line). line (line_text own) ++ (texts (take c xs) ++ behind)) same in
      let head : lines.body_read n t ≡ Some ((body_name items n, body.params), u) = ap (lines.body_read n) at ∙ bodies_read_ n (body_name items n) body.params u stand.0.0 stand.0.1 stand.0.2 stand.0.3 in
      let found : body_read heads n t ≡ Some (with_locals heads (body_name items n, body.params) (locals_read heads u)) =
      ap (λ (f : FoundInText (List ℕ × ℕ)). bind f (λ head. Some (with_locals heads head.0 (locals_read heads head.1)))) head in
      let passes = locals_pass body.locals 0 [] refl in
      by (locals_read heads u) passes.0 found (counted_so (one_local heads) (λ (xs : List Written). length xs) (LineStands items) ls [] passes.0 passes.1)
      (section (one_local heads) (λ (xs : List Written). length xs) (LineStands items) ls rest [] passes.0 c u behind locals_grow passes.1 (locals_end body.blocks after e) stands refl)
      (behind_stand ls rest c stands)
    where
      -- the lines behind the locals stand
      behind_stand : (ls rest : List Line) (c : ℕ) → Every (LineStands items) (take c (ls ++ rest)) → (d : ℕ) → c ≡ length ls + suc d → Every (LineStands items) (take (suc d) rest)
      behind_stand [] rest c h d e = subst (λ (k : ℕ). Every (LineStands items) (take k rest)) (let same : c ≡ suc d = omega arith in same) h
      behind_stand (l ∷ ls) rest zero h d e = absurd (omega arith)
      behind_stand (l ∷ ls) rest (suc c) h d e = behind_stand ls rest c h.1 d (omega arith)

      ls : List Line
      ls = numbered (line_of_local items) 0 body.locals

      ks : List Line
      ks = lines_each (lines_of_block items) 0 body.blocks

      by : (q : List Written × List ℕ) (v : List Written) → body_read heads n t ≡ Some (with_locals heads (body_name items n, body.params) q) → length v ≡ length {A = List ℕ} [] + length ls
          → Read (one_local heads) (λ (xs : List Written). length xs) (LineStands items) ls (ks ++ after) [] v c behind q
          → ((d : ℕ) → c ≡ length ls + suc d → Every (LineStands items) (take (suc d) (ks ++ after)))
          → BodyPartly (length (lines_of_body items n body)) (suc c) (body_read heads n t) ⊎ BodyWholly (length (lines_of_body items n body)) (suc c) after behind (body_read heads n t)
      by q v found count (inl h) stands =
          let code : (List Block × Bool) × List ℕ = blocks_read heads q.1 in
          let few = h.0 in
          let got = h.1 in
          let sum = length-append ls ks in
          let least = blocks_broken q.1 in
          inl (record { few = omega (arith, few, sum); thing = (with_locals heads (body_name items n, body.params) q).0.0; whole = code.0.1; rest = code.1; is = found; some = omega (arith, got, least) })
      by q v found count (inr h) stands =
          let many = h.1 in
          let locals : length q.0 ≡ length ls = ap length h.2 ∙ (let all : length v ≡ length ls = omega (arith, count) in all) in
          at q (blocks_read heads q.1) found refl locals h.0 many (blocks_until body.blocks (suc h.0) q.1 behind after e (stands h.0 many) h.3)
        where
          at : (q : List Written × List ℕ) (code : (List Block × Bool) × List ℕ) → body_read heads n t ≡ Some (with_locals heads (body_name items n, body.params) q) → code ≡ blocks_read heads q.1
              → length q.0 ≡ length ls → (d : ℕ) → c ≡ length ls + suc d
              → PartlyAll (code_read heads) (lines_of_block items) block_full (LineStands items) (λ l. ⊤) EndsBody (length ks) (suc d) (blocks_read heads q.1)
              ⊎ WhollyAll (code_read heads) (lines_of_block items) block_full (LineStands items) (λ l. ⊤) EndsBody (length ks) (suc d) after behind (blocks_read heads q.1)
              → BodyPartly (length (lines_of_body items n body)) (suc c) (body_read heads n t) ⊎ BodyWholly (length (lines_of_body items n body)) (suc c) after behind (body_read heads n t)
          at q code found same locals d many (inl p) =
              let few = p.few in
              let some = p.some in
              let sum = length-append ls ks in
              let full = full_is (blocks_read heads q.1).0.0 in
              inl (record {
                few = omega (arith, few, sum, many);
                thing = (with_locals heads (body_name items n, body.params) q).0.0;
                whole = (blocks_read heads q.1).0.1;
                rest = (blocks_read heads q.1).1;
                is = found;
                some = omega (arith, some, full, locals, many);
              })
          at q code found same locals d many (inr w) =
              let those = w.many in
              let all = w.all in
              let sum = length-append ls ks in
              let full = full_is (blocks_read heads q.1).0.0 in
              let told : BodyTold = (with_locals heads (body_name items n, body.params) q).0.0 in
              inr (record {
                more = w.more;
                many = omega (arith, those, sum, many);
                thing = told;
                is = found ∙ (λ i. Some ((told, w.whole i), w.rest i));
                all = omega (arith, all, full, locals, sum);
              })

  no_body : (n : ℕ) (l : Line) (r : List ℕ) → EndsAll l → body_read heads n (line (line_text l) ++ r) ≡ None
  no_body n EndLine r e = refl
  no_body n other r e = absurd e

  ends_up : (l : Line) → EndsAll l → EndsBody l
  ends_up EndLine e = tt
  ends_up other e = absurd e

  told_some : (told : BodyTold) → 0 < told_full told
  told_some told = omega arith

  -- the bodies of a graph
  pub bodies_through : (bodies : List Body) (c : ℕ) (t behind : List ℕ) (after : List Line) → Begin EndsAll after → Every (LineStands items) (take c (lines_each (lines_of_body items) 0 bodies ++ after))
      → t ≡ texts (take c (lines_each (lines_of_body items) 0 bodies ++ after)) ++ behind
      → PartlyAll (body_read heads) (lines_of_body items) told_full (LineStands items) EndsBody EndsAll (length (lines_each (lines_of_body items) 0 bodies)) c (bodies_read heads t)
      ⊎ WhollyAll (body_read heads) (lines_of_body items) told_full (LineStands items) EndsBody EndsAll (length (lines_each (lines_of_body items) 0 bodies)) c after behind (bodies_read heads t)
  bodies_through bodies c t behind after e stand is =
      until (body_read heads) (lines_of_body items) told_full (LineStands items) EndsBody EndsAll told_some one_body (λ n body. tt) ends_up no_body bodies 0 (length t) c t behind after e stand is (omega arith)

  pub bodies_broken : (t : List ℕ) → missing (bodies_read heads t).0.1 ≤ total (body_read heads) (lines_of_body items) told_full (LineStands items) EndsBody EndsAll (bodies_read heads t).0.0
  bodies_broken t = broken_some (body_read heads) (lines_of_body items) told_full (LineStands items) EndsBody EndsAll told_some (length t) 0 t
