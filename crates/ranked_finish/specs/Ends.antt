-- The words of the contracts of the end of the call that gives the ranked junction list: 21, and the rows kept with the list. Definitions only; assumes nothing.
use Rattle.std.specs.Prelude.{ℕ, ◌*◌, ◌/◌, ◌≤◌, ◌<◌, ◌≡◌, Bool, List, length, take, Result, Ok, Err}
use Rattle.definitions.specs.Lists.{overwrite, zeroed}
use Rattle.pass_lists.specs.Finished.{Finished}
use Rattle.ranked_list.specs.RankedList.{numbers_per_ranked}
use Rattle.ranked_list.specs.RankedAnswers as def
use Rattle.refusals.specs.declared.Refusal.{Refusal}
use Rattle.refusals.specs.Refusals.{number_of}
use Rattle.ranked_finish.specs.declared.RankedKept.{RankedKept}
use Rattle.ranked_finish.specs.declared.RankedAnswer.{RankedAnswer}

-- what C's answer stands for, and what a result does
abbrev pub ranked_form : RankedAnswer → def.RankedAnswer
ranked_form a = record { number = a.number; value = a.value; proposals = a.proposals }

abbrev pub ranked_of : Result RankedKept Refusal → def.RankedAnswer
ranked_of (Ok x) = record { number = 0; value = x.kept; proposals = x.proposals }
ranked_of (Err r) = record { number = number_of r.cause; value = r.place; proposals = 0 }

-- 21: masks m, queue q and the lent list k have become m', q' and k'
pub record RankedRefused (needed : ℕ) (m q k : List ℕ) (a : def.RankedAnswer) (m' q' k' : List ℕ) : Type 0 where
  pub answer : a ≡ record { number = 21; value = 0; proposals = 0 }
  pub masks : m' ≡ zeroed needed m
  pub queue : q' ≡ zeroed needed q
  pub list : k' ≡ zeroed (length k) k

-- the rows of n proposals are written, and the rows kept
pub record RankedWritten (needed count : ℕ) (boundaries : List ℕ) (removed : List Bool) (listed : List ℕ) (n : ℕ) (m q o k : List ℕ) (a : def.RankedAnswer)
    (m' q' o' k' : List ℕ) : Type 0 where
  pub kept : ℕ
  pub answer : a ≡ record { number = 0; value = kept; proposals = n }
  pub finished : Finished needed count boundaries removed m q o m' q' o' kept
  pub list : k' ≡ overwrite (take (numbers_per_ranked * n) listed) k

-- By the room of the lent list. At 21 the output is as it was.
pub record RankedFinished (needed count : ℕ) (boundaries : List ℕ) (removed : List Bool) (listed : List ℕ) (n : ℕ) (m q o k : List ℕ) (a : def.RankedAnswer)
    (m' q' o' k' : List ℕ) : Type 0 where
  pub short : length k / numbers_per_ranked < n → RankedRefused needed m q k a m' q' k' × (o' ≡ o)
  pub enough : n ≤ length k / numbers_per_ranked → RankedWritten needed count boundaries removed listed n m q o k a m' q' o' k'
