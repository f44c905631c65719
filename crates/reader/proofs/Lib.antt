mod Loop
mod Lists
mod Parts
mod PairRows
mod ActionLoop
mod ProgramLoop
mod Whole
mod InTurn
