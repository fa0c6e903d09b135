-- The laws in the words of specs/Laws.
-- Assumes nothing.
use mathlib.Core.Path.{sym}
use Rattle.words.specs.Laws.{Laws}
use Rattle.words.proofs.FirstLaws.{first_bad-smallest, smallest-first_bad, first_bad-none, none-first_bad, all_below-each, each-all_below, some_below-one, one-some_below}
use Rattle.words.proofs.StageLaws.{pass, halt, go, refuse-found, refuse-later, and_then-first, and_then-later}

pub proved : Laws
proved = record {
  first = record {
    first_bad-smallest = first_bad-smallest;
    smallest-first_bad = smallest-first_bad;
    first_bad-none = first_bad-none;
    none-first_bad = none-first_bad;
    all_below-each = all_below-each;
    each-all_below = each-all_below;
    some_below-one = some_below-one;
    one-some_below = one-some_below;
  };
  stages = record {
    refuse-found = refuse-found;
    refuse-later = refuse-later;
    refuse-passed = λ rule s later e q. sym (pass rule e (sym q));
    and_then-first = and_then-first;
    and_then-later = and_then-later;
    and_then-passed = λ s later e q. sym (go e (sym q));
    refuse-broken = λ rule p s later e. sym (halt later e);
  };
}
