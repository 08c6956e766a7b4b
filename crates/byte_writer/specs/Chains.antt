-- Bytes put one behind the other, in two steps (`put_then`, `appends_then`) or in many (`Writing`: what is still to be written of all). Assumes nothing.
use Rattle.std.specs.Prelude.{ℕ, ◌+◌, ◌≡◌, refl, List, [], ◌++◌, length}
use Rattle.std.proofs.Common.{arith, sym, ap, ◌∙◌, subst, length-append, append_assoc, append-nil}
use Rattle.std.proofs.Math.Nat.{add-zero}
use Rattle.std.proofs.lemmas.List.Edits.{sets}
use Rattle.std.proofs.Math.Seq.{length-sets}
use Rattle.laws.specs.ListLaws.Overwritten.{sets_append}
use Rattle.byte_writer.specs.declared.Writer.{Writer}
use Rattle.byte_writer.specs.Contract.{Put, HasRoom, Appends}

-- putting bytes keeps the length
pub put-long : {old new bytes : List ℕ} {at next : ℕ} → Put old at bytes new next → length new ≡ length old
put-long {old} {bytes = bytes} {at} P = ap length P.stored ∙ length-sets old at bytes

pub put_then : {old new new' v w : List ℕ} {at next next' : ℕ} → Put old at v new next → Put new next w new' next' → Put old at (v ++ w) new' next'
put_then {old} {new} {new'} {v} {w} {at} {next} P Q =
    record {
      stored = Q.stored ∙ ap (λ l. sets l next w) P.stored ∙ ap (λ n. sets (sets old at v) n w) P.next_is ∙ sym (sets_append old at v w);
      next_is = simp length-append (omega (arith, P.next_is, Q.next_is));
    }

pub appends_then : {old new new' : Writer} {v w : List ℕ} → Appends old v new → Appends new w new' → Appends old (v ++ w) new'
appends_then W V = record { put = put_then W.put V.put; same = V.same ∙ W.same }

-- what room there is behind what was written
pub room_behind : {old new : Writer} {v : List ℕ} (size : ℕ) → Appends old v new → HasRoom old (length v + size) → HasRoom new size
room_behind size W h = omega (arith, W.put.next_is, put-long W.put, h)

-- ---- what is still to be written

pub record Writing (old : Writer) (all rest : List ℕ) (now : Writer) : Type 0 where
  pub written : List ℕ
  pub so_far : Appends old written now
  pub whole : written ++ rest ≡ all
  pub room : HasRoom old (length all)

pub writing_starts : {old : Writer} {all : List ℕ} → HasRoom old (length all) → Writing old all all old
writing_starts {old} h = record { written = []; so_far = record { put = record { stored = refl; next_is = sym (add-zero old.at) }; same = refl }; whole = refl; room = h }

module _ {old now : Writer} {all rest : List ℕ} (v next : List ℕ) (e : rest ≡ v ++ next) (W : Writing old all rest now) where
  pub writing_room : HasRoom now (length v)
  writing_room =
      omega (
        arith,
        W.so_far.put.next_is,
        put-long W.so_far.put,
        W.room,
        ap length W.whole,
        length-append W.written rest,
        ap length e,
        length-append v next,
      )

  pub writing_goes_on : {now' : Writer} → Appends now v now' → Writing old all next now'
  writing_goes_on V =
      record {
        written = W.written ++ v;
        so_far = appends_then W.so_far V;
        whole = append_assoc W.written v next ∙ ap (λ r. W.written ++ r) (sym e) ∙ W.whole;
        room = W.room;
      }

pub writing_ends : {old now : Writer} {all rest : List ℕ} → rest ≡ [] → Writing old all rest now → Appends old all now
writing_ends {old} {now} e W = subst (λ l. Appends old l now) (sym (append-nil W.written) ∙ ap (λ r. W.written ++ r) (sym e) ∙ W.whole) W.so_far

-- what the list is once the writer is done with
pub put_left : {old new : Writer} {bytes left : List ℕ} → Appends old bytes new → left ≡ new.out.now → Put old.out.now old.at bytes left new.at
put_left {old} {new} {bytes} W e = subst (λ l. Put old.out.now old.at bytes l new.at) (sym e) W.put

-- writing keeps the length of the list
pub appends_long : {old new : Writer} {bytes : List ℕ} → Appends old bytes new → length new.out.now ≡ length old.out.now
appends_long W = put-long W.put
