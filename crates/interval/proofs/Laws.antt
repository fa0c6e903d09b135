-- The laws in the words of specs/Laws.
-- Assumes nothing.
use lib.IntN.{neg_ℤ}
use Rattle.interval.specs.Arithmetic.{exact, negate_of, operate_of}
use Rattle.interval.specs.Laws.{Laws}
use Rattle.interval.proofs.LatticeLaws.{meet-contains, meet-within-left, meet-within-right, meet-mono, join-contains-left, join-contains-right, join-within, join-comm, join-mono, within-holds, holds-within, within-refl, within-trans}
use Rattle.interval.proofs.ArithmeticLaws.{tells-some, negate-tells, negate-mono, operate-tells, operate-zero, operate-zero-only, operate-overflow-only, remainder-no-overflow, operate-mono}
use Rattle.interval.proofs.RemainderLaws.{largest-bounds, largest-attained}
use Rattle.interval.proofs.CompareLaws.{compare-allows, both-allows, either-allows, opposite-allows, compare-mono, both-mono, either-mono, opposite-mono}
use Rattle.interval.proofs.NarrowLaws.{cuts-keep, cuts-within, cuts-met, cuts-mono}

pub proved : Laws
proved = record {
  negation = record {
    negate-contains = λ r x h. (negate-tells r x h).contains;
    negate-overflow = λ r x h. (negate-tells r x h).overflow;
    negate-some = λ r x h. tells-some (negate_of r) (neg_ℤ x) (negate-tells r x h);
  };
  operations = record {
    operate-contains = λ op r s x y h k z. (operate-tells op r s x y h k z).contains;
    operate-overflow = λ op r s x y h k z. (operate-tells op r s x y h k z).overflow;
    operate-zero = operate-zero;
    operate-some = λ op r s x y h k z. tells-some (operate_of op r s) (exact op x y) (operate-tells op r s x y h k z);
    operate-zero-only = operate-zero-only;
    operate-overflow-only = operate-overflow-only;
  };
  remainders = record { largest-bounds = largest-bounds; largest-attained = largest-attained; remainder-no-overflow = remainder-no-overflow };
  decisions = record { compare-allows = compare-allows; both-allows = both-allows; either-allows = either-allows; opposite-allows = opposite-allows };
  narrowing = record {
    cuts-contains-left = λ k r s x y h i. (cuts-keep k r s x y h i).left;
    cuts-contains-right = λ k r s x y h i. (cuts-keep k r s x y h i).right;
    cuts-within-left = λ k w r s. (cuts-within k w r s).left;
    cuts-within-right = λ k w r s. (cuts-within k w r s).right;
    cuts-met-left = λ k w r s. (cuts-met k w r s).0;
    cuts-met-right = λ k w r s. (cuts-met k w r s).1;
  };
  lattice = record {
    meet-contains = meet-contains;
    meet-within-left = meet-within-left;
    meet-within-right = meet-within-right;
    join-contains-left = join-contains-left;
    join-contains-right = join-contains-right;
    join-within = join-within;
    join-comm = join-comm;
    within-holds = within-holds;
    holds-within = holds-within;
    within-refl = within-refl;
    within-trans = within-trans;
  };
  monotone = record {
    meet-mono = meet-mono;
    join-mono = join-mono;
    negate-mono = negate-mono;
    operate-mono = operate-mono;
    compare-mono = compare-mono;
    both-mono = both-mono;
    either-mono = either-mono;
    opposite-mono = opposite-mono;
    cuts-mono = cuts-mono;
  };
}
