-- "Whichever desk goes first, each one accepted gets the rows of a run with its lists alone": what such a desk is answered, its output and the shared lists
-- meet the contract of the call that runs its pass with its lists alone. Assumes nothing.
use Rattle.std.specs.Prelude.{ℕ, ◌≡◌, List}
use Rattle.std.proofs.Common.{sym, ap, ◌∙◌}
use Rattle.definitions.specs.RegionRecord.{Region}
use Rattle.definitions.specs.Verdict.{Answer}
use Rattle.definitions.specs.AtExit.{call_exit}
use Rattle.call_partition.specs.Contract.{Ran}
use Rattle.desks.specs.Desks.{Shared, Desk, alone, terrain, shared_exit, Served, LeftShared, RanBoth}
use Rattle.desks.proofs.SharedCalls.{shared_as_call, answered-passes}
use Rattle.desks.proofs.Alone.{answer-alone, labels-alone, masks-alone, queue-alone, tallies-alone, pairs-alone, records-alone, output-alone}

module _ {S : Shared} {D : Desk} {a : Answer} {l m q t p : List ℕ} {s : List Region} {o : List ℕ} where
  pub served-alone : Served S D a o → LeftShared S l m q t p s → a.number ≡ 0 → Ran (alone S D) a l m q t p s o
  served-alone v k e =
      let passes = answered-passes S D (sym (ap (λ (x : Answer). x.number) v.answer) ∙ e) in
      let h = passes.0 in
      record {
        answer = v.answer ∙ answer-alone S D h passes.1;
        labels = k.labels ∙ labels-alone S D h ∙ ap (λ n. (call_exit (alone S D) n).labels) (sym e);
        masks = k.masks ∙ masks-alone S D h ∙ ap (λ n. (call_exit (alone S D) n).masks) (sym e);
        queue = k.queue ∙ queue-alone S D h ∙ ap (λ n. (call_exit (alone S D) n).queue) (sym e);
        tallies = k.tallies ∙ tallies-alone S D h ∙ ap (λ n. (call_exit (alone S D) n).tallies) (sym e);
        pairs = k.pairs ∙ pairs-alone S D h ∙ ap (λ n. (call_exit (alone S D) n).pairs) (sym e);
        records = k.records ∙ records-alone S D h ∙ ap (λ n. (call_exit (alone S D) n).records) (sym e);
        output = v.output ∙ output-alone S D h passes.1 ∙ ap (λ n. (call_exit (alone S D) n).output) (sym e);
      }

-- what the call with no boundaries and no anchors leaves are the shared lists at exit
pub terrain-left : {S : Shared} {a : Answer} {l m q t p : List ℕ} {s : List Region} {o : List ℕ} → Ran (terrain S) a l m q t p s o → LeftShared S l m q t p s
unfolding shared_exit
terrain-left {S} R =
    let n = ap (λ (x : Answer). x.number) (R.answer ∙ shared_as_call S) in
    record {
      labels = R.labels ∙ ap (λ k. (call_exit (terrain S) k).labels) n;
      masks = R.masks ∙ ap (λ k. (call_exit (terrain S) k).masks) n;
      queue = R.queue ∙ ap (λ k. (call_exit (terrain S) k).queue) n;
      tallies = R.tallies ∙ ap (λ k. (call_exit (terrain S) k).tallies) n;
      pairs = R.pairs ∙ ap (λ k. (call_exit (terrain S) k).pairs) n;
      records = R.records ∙ ap (λ k. (call_exit (terrain S) k).records) n;
    }

module _ {x : ℕ} {S : Shared} {A B : Desk} {a b : Answer} {l m q t p : List ℕ} {s : List Region} {o u : List ℕ} (f : RanBoth x S A B a b l m q t p s o u) where
  pub route-alone : a.number ≡ 0 → Ran (alone S A) a l m q t p s o
  route-alone = served-alone f.route f.shared

  pub coaching-alone : b.number ≡ 0 → Ran (alone S B) b l m q t p s u
  coaching-alone = served-alone f.coaching f.shared
