mod Laying
mod EntryPoint
mod Passing
mod Ends
mod Whole
