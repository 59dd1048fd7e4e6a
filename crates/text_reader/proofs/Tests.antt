-- The tests that definitions go by, each from the fact that decides it.
use borrow.Author.Tests.{le-leb, lt-leb, eq-eqb, ne_eqb}

pub ruleset tests = (le-leb, lt-leb, eq-eqb, ne_eqb)
