use Rattle.layout.proofs.given_of.Goals as goal

pub returns-in-Mark : goal.returns-in-Mark
returns-in-Mark c = rw c.in-Mark.is

pub returns-in-Version : goal.returns-in-Version
returns-in-Version c = rw c.in-Version.is

pub returns-in-Service : goal.returns-in-Service
returns-in-Service c = rw c.in-Service.is

pub returns-in-Blank : goal.returns-in-Blank
returns-in-Blank c = rw c.in-Blank.is

pub returns-in-Text : goal.returns-in-Text
returns-in-Text c = rw c.in-Text.is

pub returns-in-Digits : goal.returns-in-Digits
returns-in-Digits c = rw c.in-Digits.is

pub returns-in-Money : goal.returns-in-Money
returns-in-Money c = rw c.in-Money.is

pub returns-in-Date : goal.returns-in-Date
returns-in-Date c = rw c.in-Date.is

pub returns-in-Barcode : goal.returns-in-Barcode
returns-in-Barcode c = rw c.in-Barcode.is

pub returns-in-Capture : goal.returns-in-Capture
returns-in-Capture c = rw c.in-Capture.is

pub returns-in-Form : goal.returns-in-Form
returns-in-Form c = rw c.in-Form.is
