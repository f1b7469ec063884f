-- 01, "The calls": the rules' call that a call in code is.
use Rattle.rules.specs.Calls.{RMPUPDATE, PVALIDATE, PFIX, PMERGE, PUNMERGE, PUNFIX, READ, WRITE, CENSUS}
use Rattle.rules.specs.Calls as rules
use Rattle.monitor.specs.declared.Call.{Call}
use Rattle.monitor.specs.declared.Call.TheVariants.{Rmpupdate, Pvalidate, Pfix, Pmerge, Punmerge, Punfix, Read, Write, Census}

abbrev pub called : Call → rules.Call
called (Rmpupdate caller hpa gpa asid kind) = RMPUPDATE caller hpa gpa asid kind
called (Pvalidate caller gpa hpa kind) = PVALIDATE caller gpa hpa kind
called (Pfix caller hpa leaf) = PFIX caller hpa leaf
called (Pmerge caller hpa1 hpa2) = PMERGE caller hpa1 hpa2
called (Punmerge caller hpa1 hpa2 asid) = PUNMERGE caller hpa1 hpa2 asid
called (Punfix caller hpa) = PUNFIX caller hpa
called (Read caller gpa hpa gtype ntype index) = READ caller gpa hpa gtype ntype index
called (Write caller gpa hpa gtype ntype index value) = WRITE caller gpa hpa gtype ntype index value
called (Census asid) = CENSUS asid
