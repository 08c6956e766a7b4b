-- `printed::digit_count` meets its contract. Assumes nothing.
use Rattle.std.proofs.Common.{◌≡◌, suc, ◌+◌, ◌-◌, ◌*◌, ◌^◌, ◌≤◌, ap, ◌∙◌, subst, arith}
use Rattle.std.proofs.Math.Nat.{pow-suc, pow-le-pow_right}
use Rattle.printed.proofs.digit_count.Goals as goal

pub returns : goal.returns
returns c =
    let r = c.ilog10.result in
    let next : r + 1 ≡ suc r = omega arith in
    let same : r ≡ r + 1 - 1 = omega arith in
    let power : 10 ^ (r + 1) ≡ 10 ^ r * 10 = ap (λ k. 10 ^ k) next ∙ pow-suc 10 r in
    record {
      some = omega arith;
      most = omega (arith, c.ilog10.ensures.bound);
      enough = omega (arith, c.ilog10.ensures.next_power_gt, c.max.ensures, power);
      no_more = λ h.
          let ten : 10 ^ 1 ≤ 10 ^ r = pow-le-pow_right {n = 10} (omega arith) {i = 1} {j = r} (omega (arith, h)) in
          let few : 10 ^ r ≤ c.args.n = omega (arith, ten, c.ilog10.ensures.power_le, c.max.ensures) in
          subst (λ k. 10 ^ k ≤ c.args.n) same few;
    }
