-- What `place_near` asks and gives at a place of a mouth, and what the parts of pass 1 ask of one another. Assumes nothing.
use Rattle.mouth_proposals.specs.Listed.{blank, Listed, Filled, proposal_in, proposal_as, proposal_form}
use Rattle.mouth_proposals.specs.Candidates.{is_broad, Numbered, mouth_candidate}
use Rattle.mouth_proposals.specs.Rows.{is_outer}
use Rattle.mouth_proposals.specs.declared.candidates.Candidate.{Candidate}
use Rattle.mouth_proposals.specs.declared.candidates.MouthProposal as declared
use Prim.Native.Nat.{ℕ, ◌+◌, ◌-◌, ◌*◌, ◌/◌, ◌%◌, ◌≤◌, ◌<◌}
use native.Mathlib.Omega.{arith}
use mathlib.Core.Path.{◌≡◌, refl, sym, ap, subst, ◌∙◌}
use mathlib.Core.Bool.{Bool, true, false, not, ◌&&◌, cond}
use Rattle.std.specs.Prelude.{Option, None, Some}
use mathlib.Core.List.{List, [], ◌++◌}
use lib.ListN.{length, take, get_or, get_or-append}
use lib.Seq.{get_or-take, length-take-le}
use lib.Dec.{eqb}
use Rattle.definitions.specs.Context.{Context}
use Rattle.definitions.specs.Scan.{collect}
use Rattle.definitions.specs.RampMouths.{MouthProposal, corners_near_lem, ranks_before}
use Rattle.laws.specs.ListLaws.Options.{OnO, present}
use Rattle.laws.specs.FloatLaws.Pixels.{PixelRegion}
use Rattle.context.specs.declared.Region.{Region}
use Rattle.context.specs.Records.{record_of}
use Rattle.context.specs.Shown.{ShownBoundaries, ShownPairs, ShownAnchored}
use Rattle.context.specs.Rows.{NamedRow}
use Rattle.context.proofs.ShownLaws.{shown-rows}
use Rattle.mouth_regions.specs.Inner.{places_of, region_at, inner_at, passes}
use Rattle.mouth_regions.specs.Near.{region_near}
use Rattle.mouth_selection.specs.Entries.{SafeMouth, Known, proposed}
use Rattle.mouth_selection.specs.Held.{is_refused, TakenState}
use Rattle.mouth_selection.specs.Keys.{is_better}
use Rattle.mouth_selection.specs.Rounds.{better, Under, least_among}
use Rattle.mouth_selection.specs.Selecting.{Lists, Progress, BestOf, ForRamp, row_of}
use Rattle.mouth_selection.proofs.NearLeast.{best_of}
use Rattle.mouth_selection.proofs.ProposalLists.{fresh-marks, round_first}
use Rattle.mouth_selection.proofs.RoundLaws.{better-shown}
use Rattle.mouth_selection.proofs.SelectionLaws.{safe-mouth}
use Rattle.topology.specs.Held.{place_in, record_is}
use Rattle.topology.specs.Mouths.{near_at, Locates, EntryAsked, NearAsked, BetterNear, NearBest, RampAsked, Replaces, NoMarks}

-- ---- the places of a mouth

module _ {C : Context} {records : List Region} {boundaries pairs starts : List ℕ} (p : declared.MouthProposal) (L : Locates C records boundaries pairs starts p.mouth p.ramp) where
  place-named : (k : ℕ) → k < places_of starts p.mouth → {r : ℕ} → Some r ≡ inner_at pairs starts p.mouth p.outer k → (1 ≤ r) × (r ≤ C.regions)
  place-named k l {r} e = inside (is_outer p.outer (region_at pairs (get_or starts p.mouth 0) k)) e
    where
      named : NamedRow pairs C.regions (get_or starts p.mouth 0 + k / 2)
      named = (shown-rows L.rows).named p.mouth L.mouth (get_or starts p.mouth 0 + k / 2) (omega arith) (omega (arith, l, L.rows.rising p.mouth L.mouth))

      side : (b : Bool) → (1 ≤ cond b (get_or pairs (3 * (get_or starts p.mouth 0 + k / 2) + 1) 0) (get_or pairs (3 * (get_or starts p.mouth 0 + k / 2) + 2) 0))
          × (cond b (get_or pairs (3 * (get_or starts p.mouth 0 + k / 2) + 1) 0) (get_or pairs (3 * (get_or starts p.mouth 0 + k / 2) + 2) 0) ≤ C.regions)
      side true = (named.lo-pos, named.lo-le)
      side false = (named.hi-pos, named.hi-le)

      inside : (b : Bool) → Some r ≡ cond b None (Some (region_at pairs (get_or starts p.mouth 0) k)) → (1 ≤ r) × (r ≤ C.regions)
      inside true e = absurd (let z : ◌≡◌ {A = ℕ} 0 1 = cc in omega arith)
      inside false e =
          let same : r ≡ region_at pairs (get_or starts p.mouth 0) k = cc in
          subst (λ x. (1 ≤ x) × (x ≤ C.regions)) (sym same) (side (eqb (k % 2) 0))

  module _ {k : ℕ} (l : k < places_of starts p.mouth) {r : ℕ} (e : Some r ≡ inner_at pairs starts p.mouth p.outer k) where
    pub region_named : (1 ≤ r) × (r ≤ C.regions)
    region_named = place-named k l e

    pub near-place : r - 1 < length records
    near-place = place_in L.held refl region_named.0 region_named.1

    pub near-judged : {s : Region} → ((d : Region) → s ≡ get_or records (r - 1) d) → {x : Bool}
        → ((C : Context) → ShownBoundaries C boundaries → p.mouth < C.count → p.ramp < C.count → PixelRegion (record_of s) → x ≡ region_near C p.mouth p.ramp (is_broad p.kind) (record_of s))
        → x ≡ near_at C pairs starts p k
    near-judged {s} read {x} answer =
        let is : record_of s ≡ C.region r = record_is L.held refl region_named.0 region_named.1 read in
        answer C L.bounds L.mouth L.ramp (subst PixelRegion (sym is) (L.pixels.edges r)) ∙ ap (region_near C p.mouth p.ramp (is_broad p.kind)) is
        ∙ ap (passes (λ r. region_near C p.mouth p.ramp (is_broad p.kind) (C.region r))) e

-- ---- the best of a ramp

module _ {C : Context} {records : List Region} {boundaries pairs starts marks : List ℕ} {entry : Candidate} (A : EntryAsked C records boundaries pairs starts marks entry) where
  pub entry-safe : SafeMouth pairs starts marks entry.mouth entry.outer
  entry-safe =
      let L : Lists boundaries pairs starts C.count C = record { counted = refl; bounds = A.located.bounds; rows = A.located.rows } in
      safe-mouth L marks A.long A.known

  -- the entry as a proposal
  module _ {p : declared.MouthProposal} (same : p ≡ proposal_form entry) where
    of_entry : (Q : declared.MouthProposal → Type 0) → Q (proposal_form entry) → Q p
    of_entry Q = subst Q (sym same)

    pub proposal-safe : SafeMouth pairs starts marks p.mouth p.outer
    proposal-safe = of_entry (λ p. SafeMouth pairs starts marks p.mouth p.outer) entry-safe

    module _ {T : List MouthProposal} {gone ends : List Bool} (S : TakenState C T gone ends marks) {x : Bool} where
      pub found-left : (ShownPairs C pairs starts → TakenState C T gone ends marks → p.mouth < C.count → p.ramp < C.count → Numbered C.regions p.outer → x ≡ not (is_refused C T (proposal_as C p)))
          → x ≡ not (is_refused C T (proposal_in C entry))
      found-left left =
          left A.located.rows S (of_entry (λ p. p.mouth < C.count) A.known.mouth) (of_entry (λ p. p.ramp < C.count) A.known.ramp) (of_entry (λ p. Numbered C.regions p.outer) A.known.outer)
          ∙ ap (λ p. not (is_refused C T (proposal_as C p))) same

    pub found-near : {x : Bool} → (Locates C records boundaries pairs starts p.mouth p.ramp → x ≡ corners_near_lem C (proposal_as C p)) → x ≡ corners_near_lem C (proposal_in C entry)
    found-near near = near (of_entry (λ p. Locates C records boundaries pairs starts p.mouth p.ramp) A.located) ∙ ap (λ p. corners_near_lem C (proposal_as C p)) same

  -- the entry is better, or the best stays
  module _ {best : Option Candidate} (K : OnO (Known C) best) where
    abbrev p : MouthProposal
    p = proposal_in C entry

    abbrev then_better : Option MouthProposal
    then_better = better (ranks_before C) (proposed C best) p

    pub entry-better : {T : List MouthProposal} → is_better boundaries entry best ≡ true → corners_near_lem C p ≡ true → not (is_refused C T p) ≡ true → BetterNear C T best entry (Some entry)
    entry-better {T} b n f =
        record {
          known = present A.known;
          least =
              sym (ap (λ b. cond b (Some p) (proposed C best)) b) ∙ better-shown A.located.bounds A.known K
              ∙ sym (λ i. cond (n i && f i) then_better (proposed C best));
        }

    pub far-stays : {T : List MouthProposal} → corners_near_lem C p ≡ false → BetterNear C T best entry best
    far-stays {T} n = record { known = K; least = sym (ap (λ b. cond (b && not (is_refused C T p)) then_better (proposed C best)) n) }

    pub refused-stays : {T : List MouthProposal} → not (is_refused C T p) ≡ false → BetterNear C T best entry best
    refused-stays {T} f = record { known = K; least = sym (ap (λ b. cond (corners_near_lem C p && b) then_better (proposed C best)) f ∙ go (corners_near_lem C p)) }
      where
        go : (b : Bool) → cond (b && false) then_better (proposed C best) ≡ proposed C best
        go true = refl
        go false = refl

    pub behind-stays : {T : List MouthProposal} → is_better boundaries entry best ≡ false → BetterNear C T best entry best
    behind-stays {T} b =
        record {
          known = K;
          least = sym (ap (λ o. cond (corners_near_lem C p && not (is_refused C T p)) o (proposed C best)) (sym (better-shown A.located.bounds A.known K) ∙ ap (λ b. cond b (Some p) (proposed C best)) b) ∙ go (corners_near_lem C p && not (is_refused C T p)));
        }
      where
        go : (b : Bool) → cond b (proposed C best) (proposed C best) ≡ proposed C best
        go true = refl
        go false = refl

module _ {C : Context} {records : List Region} {boundaries tallies pairs starts : List ℕ} {count : ℕ} {marks counts : List ℕ} {a : ℕ} (A : RampAsked C records boundaries tallies pairs starts count marks counts a) where
  pub ramp-entries : {entries : List Candidate} {n : ℕ} → Listed C entries n → NearAsked C records boundaries pairs starts marks entries n
  ramp-entries F =
      record {
        few = F.few;
        entry = λ k l.
            record {
              located = record {
                held = A.held;
                bounds = A.shows.bounds;
                rows = A.shows.rows;
                pixels = A.pixels;
                mouth = F.mouth k l;
                ramp = F.ramp k l;
                mouth-placed = A.shows.placed _ (omega (arith, F.mouth k l, A.shows.counted));
                ramp-placed = A.shows.placed _ (omega (arith, F.ramp k l, A.shows.counted));
              };
              known = record { mouth = F.mouth k l; ramp = F.ramp k l; outer = F.outer k l; bits = F.bits k l };
              long = A.shows.anchored.long;
            };
      }

  pub ramp-best : {entries : List Candidate} {n : ℕ} → Filled C entries n (collect count (mouth_candidate C a)) → {T : List MouthProposal} {best : Option Candidate} → NearBest C T entries n best → BestOf C T a best
  ramp-best F {T} N =
      best_of C T A.shows.rows (record { listed = F.listed; proposed = F.proposed ∙ ap (λ n. collect n (mouth_candidate C a)) (sym A.shows.counted) }) N.known N.least

-- the first n entries, as a list of their own
pub entries-front : {C : Context} {records : List Region} {boundaries pairs starts marks : List ℕ} {entries : List Candidate} {n : ℕ} → n ≤ length entries → NearAsked C records boundaries pairs starts marks entries n
    → NearAsked C records boundaries pairs starts marks (take n entries) (length (take n entries))
entries-front {C} {records} {boundaries} {pairs} {starts} {marks} {entries} {n} l N =
    record {
      few = omega (arith, N.few, length-take-le n entries l);
      entry = λ k h.
          let below : k < n = omega (arith, h, length-take-le n entries l) in
          subst (EntryAsked C records boundaries pairs starts marks) (sym (get_or-take n entries k blank below)) (N.entry k below);
    }

-- ---- the parts of the pass

module _ {C : Context} {records : List Region} {boundaries tallies pairs starts : List ℕ} {count : ℕ} {marks₀ counts : List ℕ} (R : Replaces C records boundaries tallies pairs starts count marks₀ counts) where
  pub pass-lists : Lists boundaries pairs starts count C
  pass-lists = record { counted = R.shows.counted; bounds = R.shows.bounds; rows = R.shows.rows }

  -- what is asked of a ramp once some regions are held
  pub pass-ramp : {marks : List ℕ} → ShownAnchored C marks → {a : ℕ} → a < count → RampAsked C records boundaries tallies pairs starts count marks counts a
  pass-ramp A l =
      record {
        shows = record { counted = R.shows.counted; bounds = R.shows.bounds; placed = R.shows.placed; rows = R.shows.rows; incidents = R.shows.incidents; anchored = A };
        cuts = R.cuts;
        held = R.held;
        pixels = R.pixels;
        below = l;
      }

  -- nothing is taken, and no best is known
  pub pass-starts : {gone ends : List Bool} {bests : List (Option Candidate)} → NoMarks gone → ((i : ℕ) → get_or ends i false ≡ false) → Progress C marks₀ gone ends bests 0
  pass-starts N ends =
      record {
        chosen = [];
        state = round_first N.clear ends (fresh-marks C marks₀ R.fresh);
        same = refl;
        of_ramps = record { known = λ a l. absurd (omega (arith, l)); under = λ a l. absurd (omega (arith, l)) };
        anchored = R.shows.anchored;
      }

-- ---- the bests of the first ramps

-- of no ramp anything is known, whatever list is lent
pub bests-none : {C : Context} {marks : List ℕ} {gone ends : List Bool} {bests bests' : List (Option Candidate)} → Progress C marks gone ends bests 0 → Progress C marks gone ends bests' 0
bests-none P =
    record {
      chosen = P.chosen;
      state = P.state;
      same = P.same;
      of_ramps = record { known = λ a l. absurd (omega (arith, l)); under = λ a l. absurd (omega (arith, l)) };
      anchored = P.anchored;
    }

-- what is known of a list is known where others follow
pub bests-front : {C : Context} {marks : List ℕ} {gone ends : List Bool} {front : List (Option Candidate)} {n : ℕ} (rest : List (Option Candidate)) → n ≤ length front → Progress C marks gone ends front n
    → Progress C marks gone ends (front ++ rest) n
bests-front {C} {front = front} rest m P =
    record {
      chosen = P.chosen;
      state = P.state;
      same = P.same;
      of_ramps = record {
        known = λ a l. subst (OnO (ForRamp C a)) (sym (get_or-append front rest None a (omega (arith, l, m)))) (P.of_ramps.known a l);
        under = λ a l.
            subst (λ o. Under (ranks_before C) (λ p. not (is_refused C P.chosen p)) (proposed C o) (least_among C P.chosen (row_of C a)))
            (sym (get_or-append front rest None a (omega (arith, l, m)))) (P.of_ramps.under a l);
      };
      anchored = P.anchored;
    }
