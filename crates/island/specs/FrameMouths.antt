-- Pass 1, the choice: inside, the large context's proposals, their order and their conflicts are the small one's, and no proposal outside conflicts with one
-- inside; so a mouth inside is removed exactly when the small context removes its rank. Assumes a frame, and that no ramp id stands on both sides.
use Rattle.std.specs.Prelude.{ℕ, ◌≡◌, refl, Bool, not, ◌&&◌, ◌||◌, ◌∷◌, ◌++◌, map}
use Rattle.std.proofs.Math.Path.{sym, ap, ap₂}
use Rattle.std.proofs.Common.{◌∙◌}
use Rattle.std.proofs.Math.Bool.{true, false, and-false}
use Rattle.std.proofs.Math.Dec.{eqb}
use Rattle.std.specs.Float.Ieee.{binary64, to_bits}
use Rattle.definitions.specs.Scan.{filter, collect, gather, member}
use Rattle.definitions.specs.Sort.{list_lt}
use Rattle.definitions.specs.Context.{Context, endpoints_key}
use Rattle.definitions.specs.RampMouths.{MouthProposal, meet, mouth_proposal, proposals, key, conflict, ranks_before, taken, removed}
use Rattle.laws.specs.ListLaws.Lists.{All, all_append, filter_none, map-append}
use Rattle.laws.specs.OrderLaws.ListOrder.{by_key}
use Rattle.laws.specs.OrderLaws.Ranks.{rank, rank-eqb, collect-rank, collect-all, gather-rank, gather-all}
use Rattle.laws.specs.ListLaws.Options.{OnO, absent, on_list, on_map_lem, option_in, option_out}
use Rattle.laws.specs.ListLaws.NumberLists.{split, meet-split}
use Rattle.laws.specs.OrderLaws.Choice.{Placed, placed, choice_in, named_in}
use Rattle.island.specs.Frame.{Frame, Ids, ren}
use Rattle.island.specs.RegionLists.{meet_in}
use Rattle.island.specs.FrameApproaches.{ren_mouth}
use Rattle.island.specs.FrameMouthProposals.{MouthOn, mouth_proposal_on, mouth_proposal_in, mouth_proposal-split}

module _ {L S : Context} {in_b in_r : ℕ → Bool} (F : Frame L S in_b in_r) where
  abbrev e : MouthProposal → MouthProposal
  e = ren_mouth in_b in_r

  abbrev PlaceOf : Bool → MouthProposal → Type 0
  PlaceOf = MouthOn L in_b in_r

  abbrev inside : MouthProposal → Bool
  inside p = in_b p.mouth_index

  -- ---- the list of proposals

  -- every proposal for a ramp and a mouth lies where both do
  record Both (a m : ℕ) (p : MouthProposal) : Type 0 where
    place : PlaceOf (in_b m) p
    ramp : in_b a ≡ in_b m

  proposal-both : (a m : ℕ) → OnO (Both a m) (mouth_proposal L a m)
  proposal-both a m = go (in_b a) refl (in_b m) refl
    where
      same : (b : Bool) → in_b a ≡ b → in_b m ≡ b → OnO (Both a m) (mouth_proposal L a m)
      same b h k = on_map_lem (λ p g. record { place = g; ramp = h ∙ sym k }) (mouth_proposal_on F m a (in_b m) refl (h ∙ sym k))

      differ : (b : Bool) → in_b m ≡ b → in_b a ≡ not b → OnO (Both a m) (mouth_proposal L a m)
      differ b h k = rw (mouth_proposal-split F m a b h k) absent

      go : (c : Bool) → in_b a ≡ c → (b : Bool) → in_b m ≡ b → OnO (Both a m) (mouth_proposal L a m)
      go true h true k = same true h k
      go true h false k = differ false k h
      go false h true k = differ true k h
      go false h false k = same false h k

  all_placed : All (Placed inside PlaceOf) (proposals L)
  unfolding proposals
  all_placed =
      gather-all _ _ L.count
      (λ a. collect-all _ (mouth_proposal L a) L.count (λ m. on_list (on_map_lem (λ p g. placed inside PlaceOf (in_b m) p g.place.mouth g.place) (proposal-both a m))))

  proposals_in : map e (filter inside (proposals L)) ≡ proposals S
  unfolding proposals
  proposals_in =
      gather-rank in_b inside e (λ a. collect L.count (mouth_proposal L a)) (λ a. collect S.count (mouth_proposal S a)) L.count
      (λ a l h.
      collect-rank in_b inside e (mouth_proposal L a) (mouth_proposal S (rank in_b a)) L.count
      (λ m l k. option_in e inside (on_map_lem (λ p g. g.mouth) (mouth_proposal_on F m a true k h)) (mouth_proposal_in F m a k h))
      (λ m l k. option_out inside (on_map_lem (λ p g. g.place.mouth ∙ k) (proposal-both a m)))
      ∙ ap (λ n. collect n (mouth_proposal S (rank in_b a))) (sym F.count))
      (λ a l h.
      filter_none inside (λ p k. k)
      (collect-all (λ p. inside p ≡ false) (mouth_proposal L a) L.count (λ m. on_list (on_map_lem (λ p g. g.place.mouth ∙ sym g.ramp ∙ h) (proposal-both a m)))))
      ∙ ap (λ n. gather n (λ a. collect S.count (mouth_proposal S a))) (sym F.count)

  -- ---- the order and the conflicts

  ranks_before_in : (p q : MouthProposal) → PlaceOf true p → PlaceOf true q → ranks_before L p q ≡ ranks_before S (e p) (e q)
  unfolding ranks_before
  ranks_before_in p q g h = ap₂ list_lt (key_in p g) (key_in q h)
    where
      key_in : (p : MouthProposal) → PlaceOf true p → key L p ≡ key S (e p)
      key_in p g =
          λ t.
          to_bits binary64 p.separation
          ∷ endpoints_key (F.boundary p.mouth_index g.mouth t).endpoints ++ endpoints_key (F.boundary p.ramp_index g.ramp t).endpoints

  conflict_in : (q p : MouthProposal) → PlaceOf true q → PlaceOf true p → conflict L q p ≡ conflict S (e q) (e p)
  unfolding conflict
  conflict_in q p g k =
      λ t.
      let x = F.boundary q.ramp_index g.ramp t in
      let y = F.boundary p.ramp_index k.ramp t in
      rank-eqb in_b q.mouth_index p.mouth_index g.mouth k.mouth t
      || eqb x.ramp_id y.ramp_id && eqb x.kind y.kind
      || meet_in in_r k.outer g.inner t || meet_in in_r k.inner g.inner t || meet_in in_r k.inner g.outer t
      || (p.is_triangle || q.is_triangle)
      && (meet_in in_r (all_append k.outer k.inner) (all_append g.outer g.inner)
      ∙ ap₂ meet (map-append (ren in_r) p.outer p.inner) (map-append (ren in_r) q.outer q.inner))
      t

  module _ (D : Ids L in_b) where
    conflict-apart : (q p : MouthProposal) → PlaceOf false q → PlaceOf true p → conflict L q p ≡ false
    unfolding conflict
    conflict-apart q p v u =
        (λ t.
        split in_b false q.mouth_index p.mouth_index v.mouth u.mouth t
        || D.differ p.ramp_index q.ramp_index u.ramp v.ramp u.is_ramp v.is_ramp t && eqb (L.boundary q.ramp_index).kind (L.boundary p.ramp_index).kind
        || meet-split in_r true u.outer v.inner t || meet-split in_r true u.inner v.inner t || meet-split in_r true u.inner v.outer t
        || (p.is_triangle || q.is_triangle) && meet-split in_r true (all_append u.outer u.inner) (all_append v.outer v.inner) t)
        ∙ and-false (p.is_triangle || q.is_triangle)

    -- ---- the choice

    -- the proposals taken inside are those of the small context, in the same order
    taken_in : map e (filter inside (taken L)) ≡ taken S
    unfolding taken ranks_before
    taken_in =
        choice_in inside PlaceOf e (ranks_before L) (ranks_before S) (conflict L) (conflict S) (by_key (key L)) ranks_before_in conflict_in conflict-apart all_placed proposals_in

    pub removed_in : (i : ℕ) → in_b i ≡ true → member i (removed L) ≡ member (rank in_b i) (removed S)
    unfolding removed
    removed_in i b = named_in in_b e (λ p. p.mouth_index) (λ p. refl) i (taken L) b ∙ ap (λ l. member (rank in_b i) (map (λ p. p.mouth_index) l)) taken_in
