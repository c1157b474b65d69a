-- What the code's values are without the parts that only proofs and look-ups need.
use Rattle.binder.specs.declared.gathered.Bound.{Bound}
use Rattle.binder.specs.declared.gathered.Clauses.{Clauses}
use Rattle.binder.specs.declared.scope.Scope.{Scope}
use Rattle.binder.specs.declared.scope.SelectList.{SelectList as IndexedList}
use Rattle.binder.specs.declared.gathered.Tests.{Tests}
use Rattle.binder.specs.Blocks.{PlainClauses}
use Rattle.binder.specs.Conditions.{PlainTests}
use Rattle.binder.specs.Orders.{SelectList}
use Rattle.binder.specs.Plain.{plain_preds, plain_edges, plain_statements}
use Rattle.binder.specs.Scopes.{Names}
use Rattle.binder.specs.Statements.{PlainBound}

abbrev pub names_of : Scope → Names
names_of scope = record { cat = scope.directory.now.cat.now; text = scope.text.now; sources = scope.sources }

abbrev pub plain_tests : Tests → PlainTests
plain_tests tests = record { preds = plain_preds tests.preds; edges = plain_edges tests.edges; mentions = tests.mentions }

abbrev pub list_of : IndexedList → SelectList
list_of list = record { written = list.written.now; bound = list.bound.now }

abbrev pub plain_clauses : Clauses → PlainClauses
plain_clauses clauses = record { items = clauses.items; tests = plain_tests clauses.tests; group = clauses.group; order = clauses.order }

abbrev pub plain_bound : Bound → PlainBound
plain_bound bound = record { slots = bound.slots; statements = plain_statements bound.statements }
