-- The parts of the call for two desks: what each asks, and what it leaves. A desk over the terrain is the call with its lists alone, prepared by the same
-- lists (DeskReady), so that what is asked of its pass and what follows from it is that call's (Calling); masks and queue are the terrain's again when it is
-- done. Assumes nothing.
use Prim.Native.Nat.{ℕ, ◌*◌, ◌/◌, ◌≤◌}
use native.Mathlib.Omega.{arith}
use mathlib.Core.Path.{◌≡◌, refl, sym, ap, ap₂, ◌∙◌, subst}
use mathlib.Core.Bool.{Bool, false}
use Rattle.std.specs.Prelude.{None, Some, Result, Ok, Err}
use mathlib.Core.List.{List, [], map}
use lib.ListN.{length, drop, replicate, length-map}
use Rattle.definitions.specs.Limits.{max_side, max_entries, numbers_per_span, numbers_per_boundary}
use Rattle.definitions.specs.Grid.{Map, map_of, cell_count}
use Rattle.definitions.specs.Lists.{overwrite, zeroed}
use Rattle.definitions.specs.Partition.{region_count}
use Rattle.definitions.specs.RegionRecord as def
use Rattle.definitions.specs.Rows.{rows_of, flat_rows}
use Rattle.definitions.specs.Verdict as verdict
use Rattle.definitions.specs.Verdict.{map_in}
use Rattle.definitions.specs.Refusals.{or_else}
use Rattle.definitions.specs.AtExit.{call_exit, exit_with, stage_of}
use Rattle.laws.specs.FloatLaws.MapPixels.{side-bounds}
use Rattle.context.specs.declared.Region.{Region}
use Rattle.context.specs.Records.{record_of, max_cells}
use Rattle.areas.proofs.Labelling.{zeroed_rest, zeroed-again}
use Rattle.refusals.specs.declared.Refusal as code
use Rattle.refusals.specs.Refusals.{number_of, refusal_of}
use Rattle.call_partition.specs.declared.Ready.{Ready}
use Rattle.call_partition.specs.Prepared.{ReadyAs}
use Rattle.call_partition.proofs.Exits.{verdict-kept, ran_complete}
use Rattle.pass_lists.specs.Finished.{Finishes, Finished}
use Rattle.pass_lists.proofs.AfterChecks.{ready-sides, ready-fit}
use Rattle.pass_lists.proofs.AfterPartition.{ready_finishes}
use Rattle.desks.specs.Desks.{Shared, Desk, alone, shared_refusal, own_refusal, desk_refusal, first_of, answer_from, desk_answer, output_from, desk_output, Served, LeftShared}
use Rattle.desks.specs.Terrain.{regions_same, records_same}
use Rattle.desks.proofs.SharedCalls.{shared_as_call, shared-numbered}
use Rattle.desks.proofs.Alone.{answer-alone, output-alone}
use Rattle.desk_checks.specs.AloneCalls.{terrain-left}
use Rattle.desk_checks.specs.Shared.{lent_both, RefusedBoth, SharedAs}
use Rattle.desk_checks.proofs.DeskReady.{desk-ready}
use Rattle.topology.specs.Filled.{Filled}
use Rattle.topology.specs.Marks.{Lent, MarkedFor}
use Rattle.rest_lists.proofs.Inner.{zeroed-length}
use Rattle.topology.specs.Contract.{written}
use Rattle.topology.specs.Desks.{desk_of, Ground, shared_of, Partitioned, Terrain, DeskRan, DesksRan, lends_both, leaves-both, RanBothOver}
use Rattle.refusals.specs.Answers.{answer_in, answer_of}
use Rattle.call_answers.specs.declared.desk_answers.DesksAnswer.{DesksAnswer}
use Rattle.topology.proofs.Calling.{ready-lent, ran_over, needed-few}

-- a desk with this refusal before all others
served-refused : (S : Shared) (D : Desk) {number place : ℕ} → first_of S D ≡ Some (record { number = number; place = place })
    → Served S D (record { number = number; value = place }) D.output
unfolding desk_answer desk_output
served-refused S D e =
    record {
      answer = sym (ap (λ f. answer_from f (length (rows_of D.pass (map_in (alone S D))))) e);
      output = sym (ap (λ f. output_from f (flat_rows (rows_of D.pass (map_in (alone S D)))) D.output) e);
    }

-- ---- the terrain

module _ {G : Ground} {w h : ℕ} {spans : List ℕ} {regions rows : ℕ} {l m q t p : List ℕ} (P : Partitioned G w h spans regions rows l m q t p) where
  abbrev R : ReadyAs 1 w h G.cells spans [] [] (length G.records) 0 G.labels G.masks G.queue G.tallies G.pairs regions rows l m q t p
  R = P.ready

  enough : region_count (map_of w h G.cells spans [] []) ≤ length (map record_of G.records)
  enough = omega (arith, R.enough, length-map G.records record_of)

  pub sides-within : (w ≤ max_side) × (h ≤ max_side)
  sides-within = ((side-bounds w (ready-sides R).0).1, (side-bounds h (ready-sides R).1).1)

  pub needed-within : (h * w ≤ length m) × (h * w ≤ length q)
  needed-within = (omega (arith, (ready-fit R).masks_long, P.masks_long), omega (arith, (ready-fit R).queue_long_lem, P.queue_long_lem))

  -- the shared lists are not refused
  pub none_shared : shared_refusal (shared_of w h spans G) ≡ None
  none_shared =
      shared-numbered (shared_of w h spans G)
      (ap (λ (a : verdict.Answer). a.number)
      (sym (shared_as_call (shared_of w h spans G))
      ∙ verdict-kept 1 w h G.cells spans [] [] G.labels G.masks G.queue G.tallies G.pairs (map record_of G.records) [] R.accepted enough R.fits))

module _ {G : Ground} {w h : ℕ} {spans : List ℕ} {regions rows : ℕ} {l m q t p : List ℕ} {s : List Region} (T : Terrain G w h spans regions rows l m q t p s) where
  abbrev P : Partitioned G w h spans regions rows l T.masks T.queue t p
  P = T.partitioned

  masks_long_lem : length m ≡ length G.masks
  masks_long_lem = ap length T.cleared ∙ zeroed-length (h * w) G.masks (ready-fit P.ready).masks_long

  queue_long : length q ≡ length G.queue
  queue_long = ap length T.emptied ∙ zeroed-length (h * w) G.queue (ready-fit P.ready).queue_long_lem

  -- the shared lists are as on success
  pub terrain-exit : LeftShared (shared_of w h spans G) l m q t p (map record_of s)
  terrain-exit =
      let R = P.ready in
      terrain-left
      (ran_complete 1 w h G.cells spans [] [] G.labels G.masks G.queue G.tallies G.pairs (map record_of G.records) [] R.accepted
      (record { filled = R.filled; masks = T.cleared; queue = T.emptied }) (enough P) R.tallied R.fits R.paired T.filled.records refl _ refl)

  -- masks and queue are again as they were
  pub terrain-again : {m' q' : List ℕ} → m' ≡ m → q' ≡ q → Terrain G w h spans regions rows l m' q' t p s
  terrain-again e f =
      record { masks = T.masks; queue = T.queue; partitioned = P; filled = T.filled; cleared = e ∙ T.cleared; emptied = f ∙ T.emptied }

  -- ---- one desk over it

  module _ (pass : ℕ) (boundaries anchors o : List ℕ) where
    -- its own lists are refused
    pub desk-refused : (x : code.Refusal) → Some (refusal_of x) ≡ own_refusal w h spans pass boundaries anchors (length o)
        → DeskRan G w h spans (desk_of pass boundaries anchors o) m q (answer_of (Err x)) m q o
    desk-refused x own =
        record {
          served = served-refused (shared_of w h spans G) (desk_of pass boundaries anchors o) (ap₂ or_else (none_shared P) (sym own));
          same_masks = refl;
          same_queue = refl;
        }

    module _ (passed : own_refusal w h spans pass boundaries anchors (length o) ≡ None) where
      abbrev M : Map
      M = map_of w h G.cells spans boundaries anchors

      -- the call with its lists alone
      abbrev own : ReadyAs pass w h G.cells spans boundaries anchors (length G.records) (length o) G.labels G.masks G.queue G.tallies G.pairs
          regions rows l T.masks T.queue t p
      own = desk-ready P.ready pass boundaries anchors (length o) passed

      own-filled : Filled M G.records s
      own-filled =
          record {
            records = T.filled.records ∙ ap (λ x. overwrite x (map record_of G.records)) (sym (records_same w h G.cells spans boundaries anchors));
            beyond = subst (λ n. drop n s ≡ drop n G.records) (sym (regions_same w h G.cells spans boundaries anchors)) T.filled.beyond;
          }

      pub desk-few : h * w ≤ max_cells
      desk-few = needed-few own

      -- what its pass asks
      pub desk-lent : Lent M s w (h * w) l anchors regions rows (length spans / numbers_per_span) boundaries t p (length m) (length q)
      desk-lent =
          subst (λ k. Lent M s w (h * w) l anchors regions rows (length spans / numbers_per_span) boundaries t p k (length q)) (P.masks_long ∙ sym masks_long_lem)
          (subst (Lent M s w (h * w) l anchors regions rows (length spans / numbers_per_span) boundaries t p (length T.masks)) (P.queue_long_lem ∙ sym queue_long)
          (ready-lent own own-filled P.masks_long P.queue_long_lem))

      module _ {m₂ q₂ : List ℕ} {removed : List Bool}
          (K : MarkedFor pass M (h * w) (length spans / numbers_per_span) boundaries m q m₂ q₂ (replicate max_entries false) removed) where
        -- what `finish` asks
        pub desk_finishes : Finishes (h * w) (length boundaries / numbers_per_boundary) boundaries (length m₂) (length q₂) (length o)
        desk_finishes = ready_finishes own (K.masks.long ∙ masks_long_lem) (K.queue.long ∙ queue_long)

        -- as the partition left masks and queue, over the needed length alone they have changed
        marked : MarkedFor pass M (h * w) (length spans / numbers_per_span) boundaries T.masks T.queue m₂ q₂ (replicate max_entries false) removed
        marked =
            record {
              equal = K.equal;
              differ = K.differ;
              masks = record {
                long = K.masks.long ∙ masks_long_lem ∙ sym P.masks_long;
                rest = K.masks.rest ∙ ap (drop (h * w)) T.cleared ∙ zeroed_rest (h * w) G.masks ∙ sym P.ready.masks;
              };
              queue = record {
                long = K.queue.long ∙ queue_long ∙ sym P.queue_long_lem;
                rest = K.queue.rest ∙ ap (drop (h * w)) T.emptied ∙ zeroed_rest (h * w) G.queue ∙ sym P.ready.queue;
              };
            }

        -- what it leaves
        pub desk-ran : {m₃ q₃ o₃ : List ℕ} {n : ℕ}
            → Finished (h * w) (length boundaries / numbers_per_boundary) boundaries removed m₂ q₂ o m₃ q₃ o₃ n
            → DeskRan G w h spans (desk_of pass boundaries anchors o) m q (answer_of (Ok n)) m₃ q₃ o₃
        unfolding call_exit exit_with stage_of map_in map_of cell_count
        desk-ran fin =
            let D = desk_of pass boundaries anchors o in
            let S = shared_of w h spans G in
            let ran = (ran_over own own-filled marked refl refl fin).ran in
            record {
              served = record {
                answer = ran.answer ∙ sym (answer-alone S D (none_shared P) passed);
                output = ran.output ∙ sym (output-alone S D (none_shared P) passed);
              };
              same_masks = ran.masks ∙ sym T.cleared;
              same_queue = ran.queue ∙ sym T.emptied;
            }

-- ---- both desks

-- each over what the other left, whichever goes first
module _ {G : Ground} {w h : ℕ} {spans : List ℕ} {A B : Desk} {a b : verdict.Answer} {m q m₂ q₂ o u : List ℕ} {r : DesksAnswer}
    (e : (answer_in r.route ≡ a) × (answer_in r.coaching ≡ b)) where
  both-ran : Served (shared_of w h spans G) A a o → Served (shared_of w h spans G) B b u → m₂ ≡ m → q₂ ≡ q → DesksRan G w h spans A B m q r m₂ q₂ o u
  both-ran x y f g =
      record {
        route = subst (λ z. Served (shared_of w h spans G) A z o) (sym e.0) x;
        coaching = subst (λ z. Served (shared_of w h spans G) B z u) (sym e.1) y;
        same_masks = f;
        same_queue = g;
      }

  pub route-before : {m₁ q₁ : List ℕ} → DeskRan G w h spans A m q a m₁ q₁ o → DeskRan G w h spans B m₁ q₁ b m₂ q₂ u → DesksRan G w h spans A B m q r m₂ q₂ o u
  route-before F K = both-ran F.served K.served (K.same_masks ∙ F.same_masks) (K.same_queue ∙ F.same_queue)

  pub coaching-before : {m₁ q₁ : List ℕ} → DeskRan G w h spans B m q b m₁ q₁ u → DeskRan G w h spans A m₁ q₁ a m₂ q₂ o → DesksRan G w h spans A B m q r m₂ q₂ o u
  coaching-before F K = both-ran K.served F.served (K.same_masks ∙ F.same_masks) (K.same_queue ∙ F.same_queue)

-- ---- the call

-- what is lent, as the parts have it
abbrev pub lent : (cells l m q t p : List ℕ) → List Region → Ground
lent cells l m q t p s = record { cells = cells; labels = l; masks = m; queue = q; tallies = t; pairs = p; records = s }

-- by the case of the answer
module _ {w h : ℕ} {cells spans : List ℕ} {room : ℕ} {l m q t p l' m' q' t' p' : List ℕ} where
  pub shared-ready : {r : Result Ready code.Refusal} {ready : Ready} → SharedAs w h cells spans room l m q t p r l' m' q' t' p' → r ≡ Ok ready
      → ReadyAs 1 w h cells spans [] [] room 0 l m q t p ready.regions ready.rows l' m' q' t' p'
  shared-ready P e = subst (λ r. SharedAs w h cells spans room l m q t p r l' m' q' t' p') e P

  pub shared-refused : {r : Result Ready code.Refusal} {x : code.Refusal} {s : List def.Region} → SharedAs w h cells spans room l m q t p r l' m' q' t' p' → r ≡ Err x → length s ≡ room
      → RefusedBoth (lent_both w h cells spans l m q t p s) (number_of x.cause) x.place l' m' q' t' p' s
  shared-refused {s = s} P e = subst (λ r. SharedAs w h cells spans room l m q t p r l' m' q' t' p') e P s

-- a shared refusal goes to both
pub both-refused : {order w h : ℕ} {cells spans : List ℕ} {A B : Desk} {l m q t p : List ℕ} {s : List Region} {number place : ℕ} {l' m' q' t' p' : List ℕ} {r : DesksAnswer}
    → RefusedBoth (lent_both w h cells spans l m q t p (map record_of s)) number place l' m' q' t' p' (map record_of s)
    → (answer_in r.route ≡ record { number = number; value = place }) × (answer_in r.coaching ≡ record { number = number; value = place })
    → RanBothOver order (lends_both w h cells spans l m q t p s) A B r (leaves-both l' m' q' t' p' s A.output B.output)
both-refused {w = w} {h} {cells} {spans} {A} {B} {l} {m} {q} {t} {p} {s} {number} {place} F e =
    let S = lent_both w h cells spans l m q t p (map record_of s) in
    let refused : (D : Desk) → Served S D (record { number = number; value = place }) D.output = λ D. served-refused S D (ap (λ f. or_else f (desk_refusal S D)) F.refused) in
    record {
      ran = record {
        route = subst (λ z. Served S A z A.output) (sym e.0) (refused A);
        coaching = subst (λ z. Served S B z B.output) (sym e.1) (refused B);
        shared = F.left;
      };
      beyond = refl;
    }

-- the records beyond those that were written
left-beyond : {w h : ℕ} {cells spans l m q t p : List ℕ} {s : List Region} {regions rows : ℕ} {l' m' q' t' p' : List ℕ} {s' : List Region}
    → Terrain (lent cells l m q t p s) w h spans regions rows l' m' q' t' p' s'
    → drop (written (answer_from (shared_refusal (lent_both w h cells spans l m q t p (map record_of s))) 0).number (region_count (map_of w h cells spans [] []))) s'
    ≡ drop (written (answer_from (shared_refusal (lent_both w h cells spans l m q t p (map record_of s))) 0).number (region_count (map_of w h cells spans [] []))) s
left-beyond {w} {h} {cells} {spans} {s = s} {s' = s'} T =
    let n = region_count (map_of w h cells spans [] []) in
    subst (λ f. drop (written (answer_from f 0).number n) s' ≡ drop (written (answer_from f 0).number n) s) (sym (none_shared T.partitioned)) T.filled.beyond

module _ {w h : ℕ} {cells spans l m q t p : List ℕ} {s : List Region} {regions rows : ℕ} {l' m' q' t' p' : List ℕ}
    (R : ReadyAs 1 w h cells spans [] [] (length s) 0 l m q t p regions rows l' m' q' t' p') where
  pub partitioned : length m' ≡ length m → length q' ≡ length q → Partitioned (lent cells l m q t p s) w h spans regions rows l' m' q' t' p'
  partitioned lm lq = record { ready = R; masks_long = lm; queue_long_lem = lq }

  -- the records filled, masks and queue cleared
  pub terrain-filled : {m₁ q₁ : List ℕ} {s' : List Region} → length m' ≡ length m → length q' ≡ length q
      → Filled (map_of w h cells spans [] []) s s' → m₁ ≡ zeroed (h * w) m' → q₁ ≡ zeroed (h * w) q'
      → Terrain (lent cells l m q t p s) w h spans regions rows l' m₁ q₁ t' p' s'
  terrain-filled lm lq F e f =
      record {
        masks = m';
        queue = q';
        partitioned = partitioned lm lq;
        filled = F;
        cleared = e ∙ zeroed-again (h * w) m m' R.masks;
        emptied = f ∙ zeroed-again (h * w) q q' R.queue;
      }

-- both desks were run over it
pub both-served : {order w h : ℕ} {cells spans : List ℕ} {A B : Desk} {l m q t p : List ℕ} {s : List Region} {regions rows : ℕ} {r : DesksAnswer}
    {l' m' q' t' p' : List ℕ} {s' : List Region} {m₂ q₂ o u : List ℕ}
    → Terrain (lent cells l m q t p s) w h spans regions rows l' m' q' t' p' s' → DesksRan (lent cells l m q t p s) w h spans A B m' q' r m₂ q₂ o u
    → RanBothOver order (lends_both w h cells spans l m q t p s) A B r (leaves-both l' m₂ q₂ t' p' s' o u)
both-served T K =
    record {
      ran = record { route = K.route; coaching = K.coaching; shared = terrain-exit (terrain-again T K.same_masks K.same_queue) };
      beyond = left-beyond T;
    }
